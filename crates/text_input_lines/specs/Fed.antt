-- A part of the input, byte after byte: each is handed to the machine once and in order. Assumes nothing.
use Rattle.std.specs.Prelude.{◌≡◌, refl, Bool, true, false, cond, List, [], ◌∷◌, ◌++◌, ℕ, ◌+◌, ◌≤◌, ◌<◌, eqb, ltb, length, take, get_or}
use Rattle.std.proofs.Common.{sym, subst, ◌∙◌, add-one, arith, ltb-false, eqb-true, take-suc}
use Rattle.std.proofs.Math.Seq.{take-length}
use Rattle.text_input_lines.specs.declared.Gathered.{Gathered}
use Rattle.text_input_lines.specs.declared.Said.{Said}
use Rattle.text_input_lines.specs.declared.Said.TheVariants as S
use Rattle.text_input_lines.specs.declared.Step.{Step}
use Rattle.text_input_lines.specs.Lines.{Event}
use Rattle.text_input_lines.specs.Gathered.{whole_of, last_of, Stepped, ended, grew, event_of, Run, begun, turned}

-- a line that is said stands within the slice
abbrev pub Fits : ℕ → Said → Type 0
Fits room (S.Line n) = n ≤ room
Fits room S.TooLong = Unit {0}
Fits room S.Nothing = Unit {0}

pub whole-fits : (room : ℕ) (g : Gathered) → Fits room (whole_of room g)
whole-fits room g = go g.long (ltb room g.length) (ltb-false room g.length)
  where
    go : (b c : Bool) → (c ≡ false → g.length ≤ room) → Fits room (cond b S.TooLong (cond c S.TooLong (S.Line g.length)))
    go true c h = tt
    go false true h = tt
    go false false h = h refl

pub last_fits : (room : ℕ) (g : Gathered) → Fits room (last_of room g)
last_fits room g = go g.long (eqb g.length 0) (whole-fits room g)
  where
    go : (b c : Bool) → Fits room (whole_of room g) → Fits room (cond b S.TooLong (cond c S.Nothing (whole_of room g)))
    go true c h = tt
    go false true h = tt
    go false false h = h

pub step_fits : {g : Gathered} {b : ℕ} {r : Step} {old new : List ℕ} → Stepped g b r old new → Fits (length new) r.said
step_fits {g} {b} {r} {old} {new} (ended e n s) = rw (s, n) (whole-fits (length old) g)
step_fits (grew e k s) = rw s tt

pub step-length : {g : Gathered} {b : ℕ} {r : Step} {old new : List ℕ} → Stepped g b r old new → length new ≡ length old
step-length (ended e n s) = rw n refl
step-length (grew e k s) = k.same

-- so many bytes of a text were handed to the machine, and all of them unless it was stopped
pub record Fed (g : Gathered) (text : List ℕ) (r : Gathered) (going : Bool) (old new : List ℕ) : Type 0 where
  pub count : ℕ
  pub said : List Event
  pub run : Run g old (take count text) said r new
  pub all : going ≡ true → count ≡ length text

-- ---- what a loop over the text carries
pub record Feeding (g₀ : Gathered) (text : List ℕ) (g : Gathered) (old new : List ℕ) (i : ℕ) : Type 0 where
  pub said : List Event
  pub run : Run g₀ old (take i text) said g new

pub feed : {g₀ g : Gathered} {r : Step} {text old now new : List ℕ} {i : ℕ} → i < length text → Feeding g₀ text g old now i → Stepped g (get_or text i 0) r now new → Feeding g₀ text r.next old new (i + 1)
feed {g₀} {g} {r} {text} {old} {now} {new} {i} h k s = record { said = k.said ++ event_of r.said new; run = rw (add-one i, take-suc text i 0 h) (turned k.run s) }
