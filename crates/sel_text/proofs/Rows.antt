-- Worked rows: the definitions compute.
use Rattle.std.proofs.Common.{◌≡◌, true, false, [], ◌∷◌, Some, None, Ok, Err, refl}
use Rattle.std.specs.Prelude.{codes}
use Rattle.tp_base.specs.Names.{with_name, place_in}
use Rattle.tp_base.specs.declared.atoms.AtomKind.TheVariants.{Element, Class, Ident, Attr}
use Rattle.sel_text.specs.declared.faults.SelFault.TheVariants.{Skipped}
use Rattle.sel_text.specs.declared.faults.Skip.TheVariants.{Sibling, Pseudo, Attribute, Bad}
use Rattle.sel_text.specs.declared.selectors.Join.TheVariants.{Inside, Child}
use Rattle.text_bytes.specs.Attributes.{is_set_apart}
use Rattle.text_bytes.specs.Marks.{behind_mark}
use Rattle.sel_text.specs.Bytes.{name_len, begins_name, behind_gap}
use Rattle.sel_text.specs.Grammar.{left_at, is_dropped_element, is_dropped_class, behind_word, behind_dropped, any_part, attribute_part, behind_name, behind_bracket, value_at, quoted, name_front, first_part, name_at, behind_child, behind_space, behind_near, join_at}
use Rattle.sel_text.specs.Syntax.{whole_part, first_item, later_item, item_at, syntax_from, syntax_of}
use Rattle.sel_text.specs.Reading.{atoms_of, compounds_of, read_syntax, read_piece}
use Rattle.sel_text.specs.Lists.{from_comma, behind_unit, first_piece, more_pieces, pieces, read_pieces, read_strict_list}
use Rattle.sel_text.specs.Selectors.{simple}

-- ---- syntax

parts_are_dropped : syntax_of true 23 (codes " A.b:hover > #c ::After")
    ≡ record { names = (Element, codes "A") ∷ (Class, codes "b") ∷ []; joins = Child ∷ Inside ∷ []; others = ((Ident, codes "c") ∷ []) ∷ [] ∷ []; fault = None }
unfolding syntax_of syntax_from item_at later_item first_item whole_part join_at behind_near behind_space behind_child name_at first_part any_part attribute_part behind_name behind_bracket value_at quoted name_front is_set_apart behind_dropped behind_word is_dropped_class is_dropped_element left_at name_len begins_name behind_gap behind_mark
parts_are_dropped = refl

no_part_is_dropped : syntax_of false 7 (codes "a:hover") ≡ record { names = (Element, codes "a") ∷ []; joins = []; others = []; fault = Some (Skipped Pseudo 1) }
unfolding syntax_of syntax_from item_at later_item first_item whole_part join_at behind_near behind_space behind_child name_at first_part any_part attribute_part behind_name behind_bracket value_at quoted name_front is_set_apart behind_dropped behind_word is_dropped_class is_dropped_element left_at name_len begins_name behind_gap behind_mark
no_part_is_dropped = refl

names_stay_before_a_fault : syntax_of false 5 (codes "a > +") ≡ record { names = (Element, codes "a") ∷ []; joins = Child ∷ []; others = [] ∷ []; fault = Some (Skipped Sibling 4) }
unfolding syntax_of syntax_from item_at later_item first_item whole_part join_at behind_near behind_space behind_child name_at first_part any_part attribute_part behind_name behind_bracket value_at quoted name_front is_set_apart behind_dropped behind_word is_dropped_class is_dropped_element left_at name_len begins_name behind_gap behind_mark
names_stay_before_a_fault = refl

-- ---- attributes

attribute_alone : syntax_of true 24 (codes "a[ href /**/]:hover[B=c]") ≡ record { names = (Element, codes "a") ∷ (Attr, codes "href") ∷ (Attr, codes "B=c") ∷ []; joins = []; others = []; fault = None }
unfolding syntax_of syntax_from item_at later_item first_item whole_part join_at behind_near behind_space behind_child name_at first_part any_part attribute_part behind_name behind_bracket value_at quoted name_front is_set_apart behind_dropped behind_word is_dropped_class is_dropped_element left_at name_len begins_name behind_gap behind_mark
attribute_alone = refl

values_in_quotes : syntax_of false 22 (codes "[a='x\"y'][a=\"]\"][a='']") ≡ record { names = (Attr, codes "a=x\"y") ∷ (Attr, codes "a=]") ∷ (Attr, codes "a=") ∷ []; joins = []; others = []; fault = None }
unfolding syntax_of syntax_from item_at later_item first_item whole_part join_at behind_near behind_space behind_child name_at first_part any_part attribute_part behind_name behind_bracket value_at quoted name_front is_set_apart behind_dropped behind_word is_dropped_class is_dropped_element left_at name_len begins_name behind_gap behind_mark
values_in_quotes = refl

other_operator : syntax_of true 12 (codes "a[href^=\"#\"]") ≡ record { names = (Element, codes "a") ∷ []; joins = []; others = []; fault = Some (Skipped Attribute 1) }
unfolding syntax_of syntax_from item_at later_item first_item whole_part join_at behind_near behind_space behind_child name_at first_part any_part attribute_part behind_name behind_bracket value_at quoted name_front is_set_apart behind_dropped behind_word is_dropped_class is_dropped_element left_at name_len begins_name behind_gap behind_mark
other_operator = refl

set_apart : syntax_of true 7 (codes "[Class]") ≡ record { names = []; joins = []; others = []; fault = Some (Skipped Attribute 0) }
unfolding syntax_of syntax_from item_at later_item first_item whole_part join_at behind_near behind_space behind_child name_at first_part any_part attribute_part behind_name behind_bracket value_at quoted name_front is_set_apart behind_dropped behind_word is_dropped_class is_dropped_element left_at name_len begins_name behind_gap behind_mark
set_apart = refl

no_name_for_value : syntax_of true 5 (codes "[a=5]") ≡ record { names = []; joins = []; others = []; fault = Some (Skipped Attribute 0) }
unfolding syntax_of syntax_from item_at later_item first_item whole_part join_at behind_near behind_space behind_child name_at first_part any_part attribute_part behind_name behind_bracket value_at quoted name_front is_set_apart behind_dropped behind_word is_dropped_class is_dropped_element left_at name_len begins_name behind_gap behind_mark
no_name_for_value = refl

not_closed : syntax_of true 2 (codes "[a") ≡ record { names = []; joins = []; others = []; fault = Some (Skipped Attribute 0) }
unfolding syntax_of syntax_from item_at later_item first_item whole_part join_at behind_near behind_space behind_child name_at first_part any_part attribute_part behind_name behind_bracket value_at quoted name_front is_set_apart behind_dropped behind_word is_dropped_class is_dropped_element left_at name_len begins_name behind_gap behind_mark
not_closed = refl

behind_a_dot : syntax_of true 4 (codes ".[a]") ≡ record { names = []; joins = []; others = []; fault = Some (Skipped Attribute 1) }
unfolding syntax_of syntax_from item_at later_item first_item whole_part join_at behind_near behind_space behind_child name_at first_part any_part attribute_part behind_name behind_bracket value_at quoted name_front is_set_apart behind_dropped behind_word is_dropped_class is_dropped_element left_at name_len begins_name behind_gap behind_mark
behind_a_dot = refl

escaped_value : syntax_of true 7 (codes "[a=\"\\\"]") ≡ record { names = []; joins = []; others = []; fault = Some (Skipped Attribute 0) }
unfolding syntax_of syntax_from item_at later_item first_item whole_part join_at behind_near behind_space behind_child name_at first_part any_part attribute_part behind_name behind_bracket value_at quoted name_front is_set_apart behind_dropped behind_word is_dropped_class is_dropped_element left_at name_len begins_name behind_gap behind_mark
escaped_value = refl

-- ---- lists

comma_in_comment : read_strict_list (codes ".a/*,*/,*") [] ≡ ((Class, codes "a") ∷ [], Ok (simple (0 ∷ []) ∷ simple [] ∷ []))
unfolding read_strict_list read_pieces pieces more_pieces first_piece from_comma behind_unit read_piece read_syntax compounds_of atoms_of with_name place_in syntax_of syntax_from item_at later_item first_item whole_part join_at behind_near behind_space behind_child name_at first_part any_part attribute_part behind_name behind_bracket value_at quoted name_front is_set_apart behind_dropped behind_word is_dropped_class is_dropped_element left_at name_len begins_name behind_gap behind_mark
comma_in_comment = refl

comma_in_bracket : read_strict_list (codes ".a, b[c,d], e") [] ≡ ((Class, codes "a") ∷ (Element, codes "b") ∷ [], Err (Skipped Attribute 5))
unfolding read_strict_list read_pieces pieces more_pieces first_piece from_comma behind_unit read_piece read_syntax compounds_of atoms_of with_name place_in syntax_of syntax_from item_at later_item first_item whole_part join_at behind_near behind_space behind_child name_at first_part any_part attribute_part behind_name behind_bracket value_at quoted name_front is_set_apart behind_dropped behind_word is_dropped_class is_dropped_element left_at name_len begins_name behind_gap behind_mark
comma_in_bracket = refl

comma_in_string : read_strict_list (codes "a \",\"") [] ≡ ((Element, codes "a") ∷ [], Err (Skipped Bad 2))
unfolding read_strict_list read_pieces pieces more_pieces first_piece from_comma behind_unit read_piece read_syntax compounds_of atoms_of with_name place_in syntax_of syntax_from item_at later_item first_item whole_part join_at behind_near behind_space behind_child name_at first_part any_part attribute_part behind_name behind_bracket value_at quoted name_front is_set_apart behind_dropped behind_word is_dropped_class is_dropped_element left_at name_len begins_name behind_gap behind_mark
comma_in_string = refl

comma_in_value : read_strict_list (codes "[A=\"X,y\"], b") [] ≡ ((Attr, codes "a=x,y") ∷ (Element, codes "b") ∷ [], Ok (simple (0 ∷ []) ∷ simple (1 ∷ []) ∷ []))
unfolding read_strict_list read_pieces pieces more_pieces first_piece from_comma behind_unit read_piece read_syntax compounds_of atoms_of with_name place_in syntax_of syntax_from item_at later_item first_item whole_part join_at behind_near behind_space behind_child name_at first_part any_part attribute_part behind_name behind_bracket value_at quoted name_front is_set_apart behind_dropped behind_word is_dropped_class is_dropped_element left_at name_len begins_name behind_gap behind_mark
comma_in_value = refl
