-- Parts of a text that end with a mark.
use Rattle.std.specs.Prelude.{ℕ, nat_eq, if◌then◌else◌, List, [], ◌∷◌, length, drop}
use Rattle.std.specs.List.{starts_with}

-- behind the first place where the mark stands, or the end
unfoldable pub behind_mark : List ℕ → List ℕ → List ℕ
behind_mark mark [] = []
behind_mark mark (b ∷ bs) = if starts_with nat_eq (b ∷ bs) mark then drop (length mark) (b ∷ bs) else behind_mark mark bs
