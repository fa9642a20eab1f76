-- For every run of the code's calls from a fresh session: the word that `shortest` and `words` (of `gate_words_lent`; or `spell` of `gate_words`) give together meets the job and has the fewest T of all words that do; and where
-- `shortest` is refused 14, no word does with fewer than the next scale. SPEC, "Shortest pattern". What is known of the calls is what their contracts promise.
use Rattle.std.specs.Prelude.{◌≡◌, List, ℕ, suc, ◌+◌, ◌%◌, ◌≤◌}
use Rattle.ring.specs.Point.Exponent.{pulse_count}
use Rattle.region.specs.declared.Job.{Job}
use Rattle.gate_theory.specs.Table.{Letter}
use Rattle.gate_theory.specs.Matrix.{Spells}
use Rattle.gate_theory.specs.Word.{Ts}
use Rattle.gates.specs.Written.{bytes}
use Rattle.pattern_optimal.specs.GateSet.{Gate, GateSpells, gate_ts}
use Rattle.pattern_optimal.specs.Unbeaten.{Meets, Enters, GatesEnter}
use Rattle.session_model.specs.Session.{whole}
use Rattle.session_model.specs.Rules.{begin, known_after}
use Rattle.session_stages.specs.World.{world}
use Rattle.session.specs.Run.{Made, calls_of}

-- ---- the job of a run: the one that the records read make, by the rules (SPEC, "Calls")
abbrev pub HasJob : List Made → Job → Type 0
HasJob ms j = (known_after world (begin world) (calls_of ms)).job ≡ whole j

-- ---- a word, in bytes, that meets the job of a run with m T, the fewest of all words that do
pub record HasFewest (ms : List Made) (m : ℕ) (written : List ℕ) : Type 0 where
  pub job : Job
  pub has-job : HasJob ms job
  pub word : List Letter
  pub bytes-are : written ≡ bytes word
  pub meets : Meets job (Spells word)
  pub Ts-are : Ts word ≡ m
  pub fewest : (w : List Letter) → Meets job (Spells w) → m ≤ Ts w
  -- of words with S†, T†, X, Y and Z too
  pub fewest-gates : (g : List Gate) → Meets job (GateSpells g) → m ≤ gate_ts g
  -- of any determinant: one T may be spared where their number is odd
  pub fewest-any : (w : List Letter) → Enters job w → m ≤ Ts w + Ts w % 2
  pub fewest-gates-any : (g : List Gate) → GatesEnter job g → m ≤ gate_ts g + gate_ts g % 2

-- ---- `shortest` is refused 14: there is no pattern up to the job's scale k, and every word that meets the job has at least the pulse count of k + 1
pub record AllBeyond (ms : List Made) : Type 0 where
  pub job : Job
  pub has-job : HasJob ms job
  pub beyond : (w : List Letter) → Meets job (Spells w) → pulse_count (suc job.k) ≤ Ts w
  pub beyond-gates : (g : List Gate) → Meets job (GateSpells g) → pulse_count (suc job.k) ≤ gate_ts g
  pub beyond_any : (w : List Letter) → Enters job w → pulse_count (suc job.k) ≤ Ts w + Ts w % 2
  pub beyond-gates-any : (g : List Gate) → GatesEnter job g → pulse_count (suc job.k) ≤ gate_ts g + gate_ts g % 2
