-- Worked examples, which the definitions give by computing.
use Rattle.std.proofs.Common.{◌≡◌, true, false, [], ◌∷◌, Some, refl}
use Rattle.std.specs.Prelude.{codes}
use Rattle.tp_base.specs.declared.atoms.AtomKind.TheVariants.{Class, Ident}
use Rattle.tp_base.specs.Names.{place_in, with_name}
use Rattle.tp_base.specs.Classes.{has_class, all_among, with_class, union_of, cut_to}
use Rattle.tp_base.specs.Places.{line_of, column_of}

-- the class a, the id a and the class a again
first_class : with_name [] (Class, codes "a") ≡ Some (0, (Class, codes "a") ∷ [])
unfolding with_name place_in
first_class = refl

then_ident : with_name ((Class, codes "a") ∷ []) (Ident, codes "a") ≡ Some (1, (Class, codes "a") ∷ (Ident, codes "a") ∷ [])
unfolding with_name place_in
then_ident = refl

class_again : with_name ((Class, codes "a") ∷ (Ident, codes "a") ∷ []) (Class, codes "a") ≡ Some (0, (Class, codes "a") ∷ (Ident, codes "a") ∷ [])
unfolding with_name place_in
class_again = refl

-- 3, 1 and 3 again
added : with_class 3 (with_class 1 (with_class 3 [])) ≡ 1 ∷ 3 ∷ []
added = refl

united : union_of (1 ∷ 3 ∷ []) (1 ∷ 2 ∷ []) ≡ 1 ∷ 2 ∷ 3 ∷ []
united = refl

-- the common ones, and whether each is among the others
common : cut_to (1 ∷ 2 ∷ []) (1 ∷ 2 ∷ 3 ∷ []) ≡ 1 ∷ 2 ∷ []
common = refl

among : all_among (1 ∷ 3 ∷ []) (1 ∷ 2 ∷ 3 ∷ []) ≡ true
among = refl

not_among : all_among (1 ∷ 4 ∷ []) (1 ∷ 2 ∷ 3 ∷ []) ≡ false
not_among = refl

has_two : has_class 2 (1 ∷ 2 ∷ 3 ∷ []) ≡ true
has_two = refl

-- the first byte, the byte behind a line feed, and the end
line_first : line_of (codes "ab\ncd") 0 ≡ 1
line_first = refl

column_first : column_of (codes "ab\ncd") 0 ≡ 1
column_first = refl

line_behind : line_of (codes "ab\ncd") 3 ≡ 2
line_behind = refl

column_behind : column_of (codes "ab\ncd") 3 ≡ 1
column_behind = refl

line_end : line_of (codes "ab\ncd") 5 ≡ 2
line_end = refl

column_end : column_of (codes "ab\ncd") 5 ≡ 3
column_end = refl
