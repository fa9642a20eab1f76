-- A text that was offered to standard error, whatever was taken of it.
use Rattle.std.specs.Prelude.{Bool, List, ℕ}
use Rattle.system_transfer.specs.Sending.{Sent}

pub record Said (text : List ℕ) : Type 0 where
  pub whole : Bool
  pub sent : Sent text whole
