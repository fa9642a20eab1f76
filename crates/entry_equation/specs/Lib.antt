-- `Equation` is the equation of SPEC, "Other entry": read it first. `Meaning` says what it means in Z[√2], `Size` how large the points are that solve it, `Tests` what its tests say.
pub mod Equation
pub mod Size
pub mod Meaning
pub mod lemmas
