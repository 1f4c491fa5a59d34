-- The line on a ring of boxes: how many lines there are of each form, and how many steps the selectors take that are used.
--     summary n lines
use Rattle.std.specs.Prelude.{ℕ, Bool, true, false, List, ◌++◌, length, min, codes}
use Rattle.std.specs.List.{count_by, sum_by}
use Rattle.std.specs.Fmt.{decimal}
use Rattle.usage_report.specs.Lines.{Line, used, used_unshown, unused, skipped, spent, MOST_COUNT}
use Rattle.usage_report.specs.declared.summaries.Form.{Form}
use Rattle.usage_report.specs.declared.summaries.Form.TheVariants as form

abbrev pub is_of : Form → Line → Bool
is_of form.Used (used count shown) = true
is_of form.UsedUnshown used_unshown = true
is_of form.Unused unused = true
is_of form.Skipped (skipped cause at) = true
is_of form.Spent spent = true
is_of _ _ = false

abbrev pub count_of : Form → List Line → ℕ
count_of f lines = count_by (is_of f) lines

abbrev pub steps_of : Line → ℕ
steps_of (used count shown) = count
steps_of _ = 0

-- or the greatest number where they are more
abbrev pub all_steps : List Line → ℕ
all_steps lines = min (sum_by steps_of lines) MOST_COUNT

-- behind a text
unfoldable pub with_counts : List ℕ → List Line → List ℕ
with_counts front lines =
    front ++ codes ", used " ++ decimal (count_of form.Used lines) ++ codes ", used-unshown " ++ decimal (count_of form.UsedUnshown lines) ++ codes ", unused " ++ decimal (count_of form.Unused lines)
    ++ codes ", skipped " ++ decimal (count_of form.Skipped lines) ++ codes ", spent " ++ decimal (count_of form.Spent lines)

unfoldable pub summary : ℕ → List Line → List ℕ
summary n lines = with_counts (codes "gen " ++ decimal n ++ codes ": selectors " ++ decimal (length lines)) lines ++ codes ", steps " ++ decimal (all_steps lines) ++ codes "\n"
