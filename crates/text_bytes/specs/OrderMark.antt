-- The byte order mark.
use Rattle.std.specs.Prelude.{ℕ, nat_eq, if◌then◌else◌, List, [], ◌∷◌, drop}
use Rattle.std.specs.List.{starts_with}

-- without a byte order mark of UTF-8 at the front
unfoldable pub behind_order_mark : List ℕ → List ℕ
behind_order_mark bs = if starts_with nat_eq bs (0xEF ∷ 0xBB ∷ 0xBF ∷ []) then drop 3 bs else bs
