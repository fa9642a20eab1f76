-- The lines of an input: `Lines` are those of a text, `Gathered` the machine that gathers them byte by byte and that it says each of them once and in order; `Fed` is what a loop over a part of the input does with it.
pub mod Lines
pub mod Gathered
pub mod Fed
