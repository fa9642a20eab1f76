-- "Sheets have a reading of their own, so job readings still refuse kind 07 with 2."
use Rattle.std.specs.Prelude.{◌≡◌, refl, List, ◌∷◌, ℕ}
use Rattle.record_kinds.specs.declared.Turn.{Turn}
use Rattle.record_kinds.specs.declared.Refusal.TheVariants.{UnknownKind}
use Rattle.record_kinds.specs.Kinds.{number, kind_of, admission_of}
use Rattle.record.specs.declared.Reading.TheVariants.{Refused}
use Rattle.record.specs.Record.{reading_of}

pub jobs_refuse : (body : List ℕ) (t : Turn) → reading_of (7 ∷ body) t ≡ Refused UnknownKind
unfolding reading_of kind_of admission_of
jobs_refuse body t = refl

two : number UnknownKind ≡ 2
two = refl
