-- `Pattern` has the definitions: read it first. `Minimal` is the theorem: no pair up to the top scale has a smaller m. `Scale` says what it needs of membership at another
-- scale, `Pair` of pairs; `Turn` has scales in turn.
pub mod Pattern
pub mod Minimal
pub mod lemmas
