-- `Fewest`: a normal form has the fewest T of all words of its product. `Handed`: so has the word that is handed back. `Unbeaten`: no word meets a job with fewer T than the shortest pattern; `Gates`: nor does one with S†, T†, X, Y and Z.
-- `GateSet`: these as words in H, S, T and W. `Equal`: words of equal product. `Unitary`: what words spell solves the equation. `Closing`: letters at the ends of a word. `Passing`: S, X and W pass through a normal form.
pub mod GateSet
pub mod Unbeaten
pub mod Gates
pub mod lemmas
