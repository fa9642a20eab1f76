-- What `count` counts (`Counting`). The output on its way out, piece after piece: `Printed` is what a printing came to, `Whole` that the bytes taken are a beginning of the output, and all of it exactly where the answer is true.
pub mod Printed
pub mod Counting
pub mod lemmas
