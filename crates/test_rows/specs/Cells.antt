-- The cells of a row, which bars part. Assumes nothing.
use Rattle.std.specs.Prelude.{List, [], ℕ, ◌-◌, ◌==◌, length, take, drop, slice_index_or}
use Rattle.std.specs.Char.{is_ascii_whitespace}
use Rattle.std.specs.List.{slice_split, prefix_len, suffix_len}

-- without the white space at its start
abbrev pub trim_start : List ℕ → List ℕ
trim_start s = drop (prefix_len is_ascii_whitespace s) s

-- without the white space at its end
abbrev pub trim_end : List ℕ → List ℕ
trim_end s = take (length s - suffix_len is_ascii_whitespace s) s

-- the n-th of the parts between bars, without the white space about it; nothing where there are fewer
abbrev pub cell_of : List ℕ → ℕ → List ℕ
cell_of row n = trim_end (trim_start (slice_index_or (slice_split (λ b. b == 124) row) n []))
