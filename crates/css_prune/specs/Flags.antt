-- The selectors of a sheet with their flags, as the code has them: in two lists of one length.
use Rattle.std.specs.Prelude.{ℕ, suc, nat_eq, ◌==◌, ◌&&◌, ◌||◌, Bool, if◌then◌else◌, List, [], ◌∷◌, map, length, take, drop, slice_range, codes}
use Rattle.std.specs.List.{list_any, starts_with}
use Rattle.sel_text.specs.Grammar.{is_word}
use Rattle.css_read.specs.declared.sheets.Range.{Range}
use Rattle.css_read.specs.declared.sheets.SheetItem.{SheetItem}
use Rattle.css_read.specs.Pruned as spec
use Rattle.css_read.specs.Sheets.{Item}
use Rattle.css_read.specs.Units.{is_quote}
use Rattle.css_read.specs.Views.{item_of}

abbrev pub flagged : List SheetItem → List Bool → List spec.Flagged
flagged items unused = spec.with_flags (map item_of items) unused

-- how many stay
abbrev pub staying : List Bool → ℕ
staying [] = 0
staying (g ∷ gs) = if g then staying gs else suc (staying gs)

-- where the last one ends
abbrev pub end_of : ℕ → List Item → ℕ
end_of to [] = to
end_of to (i ∷ is) = end_of i.to is

-- ---- which rules are fixed doesn't hang on flags

abbrev pub begins_word : List ℕ → List ℕ → Bool
begins_word word text = is_word (take (length word) text) word

abbrev pub begins_early_rule : List ℕ → Bool
begins_early_rule text = begins_word (codes "@import") text || begins_word (codes "@namespace") text

abbrev pub begins_order_mark : List ℕ → Bool
begins_order_mark text = starts_with nat_eq text (0xEF ∷ 0xBB ∷ 0xBF ∷ [])

abbrev pub has_early_rule : List ℕ → Bool
has_early_rule text = spec.has_word (codes "@import") text || spec.has_word (codes "@namespace") text

abbrev pub bytes_at : List ℕ → Item → List ℕ
bytes_at text i = slice_range text i.from i.to

abbrev pub begins_at_rule : List ℕ → Item → Bool
begins_at_rule text i = spec.begins_at_rule (bytes_at text i)

abbrev pub has_string : List ℕ → Item → Bool
has_string text i = spec.is_skipped i.outcome && list_any is_quote (bytes_at text i)

abbrev pub is_fixed_by : List ℕ → ℕ → Range → List Item → Bool
is_fixed_by text k r items = k == 0 && spec.holds_back text r || list_any (begins_at_rule text) (drop 1 items) || list_any (has_string text) items
