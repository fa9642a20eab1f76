-- A page, one hand-out with its lines, and what it says of the hand-out.
use Rattle.std.specs.Prelude.{◌≡◌, Bool, false, not, List, [], ℕ, ◌/◌, min, length, take, drop}
use Rattle.ranks.specs.Rest.{at, ended, is_nil, place_of, rest}
use Rattle.ranks.specs.Rank.{top}
use Rattle.ranks.specs.Handed.{flat}
use Rattle.cuts.specs.Digits.{span}
use Rattle.walk_list.specs.Walk.{listed_at, numbers_in}
use Rattle.text.specs.Append.{Appended}
use Rattle.list_lines.specs.Lines.{lines_of}
use Rattle.session_model.specs.Session.{early, walking}
use Rattle.session_model.specs.Session as Model
use Rattle.session_stages.specs.World.{world}
use Rattle.session_stages.specs.Session.{meaning}
use Rattle.list_pages.specs.declared.page.Page.{Page}

-- the room for points: no more than 2,048, and their lines fit
abbrev pub room_in : ℕ → ℕ
room_in n = min 2048 (n / 70)

pub record Paging : Type 0 where
  pub session : Model.Session world
  pub count : ℕ
  pub more : Bool
  pub text : List ℕ

abbrev nothing : Model.Session world → Paging
nothing m = record { session = m; count = 0; more = false; text = [] }

unfoldable pub page_of : ℕ → Model.Session world → Paging
page_of room (early p) = nothing (early p)
page_of room (walking j ended o) = nothing (walking j ended o)
page_of room (walking j (at p) o) =
    let left = rest (listed_at j) (top span) p in
    record {
      session = walking j (place_of (drop room left)) o;
      count = length (take room left);
      more = not (is_nil (drop room left));
      text = lines_of j.k (flat numbers_in (take room left));
    }

-- the page r, with its text at the start of the slice that it was lent
pub record Paged (p : Paging) (r : Page) (old new : List ℕ) : Type 0 where
  pub session : meaning r.session ≡ p.session
  pub count : r.count ≡ p.count
  pub more : r.more ≡ p.more
  pub text : Appended old 0 p.text new r.length
