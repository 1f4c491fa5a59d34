-- What was read of a sheet, and that two pages have of one sheet what one text has.
use Rattle.std.proofs.Common.{◌≡◌, ℕ, List, [], Option, Result, Ok, Err, refl, ap, subst}
use Rattle.tp_base.specs.Names.{Named}
use Rattle.css_read.specs.declared.faults.SheetFault.{SheetFault}
use Rattle.css_read.specs.Reading.{Ending, read_sheet}
use Rattle.css_read.specs.Shapes.{AreAlikeSheets}
use Rattle.css_read.specs.Sheets.{Sheet}
use Rattle.css_read.proofs.ShapeLemmas.{one_shape}
use Rattle.tree_sem.specs.Trees.{LabelTree}
use Rattle.jq_stmts.specs.Sharp.{ExactStatement, wides}
use Rattle.html_subset.specs.Reading.{read_page}
use Rattle.command_words.specs.declared.words.Mode.{Mode}
use Rattle.run_ends.specs.declared.refusals.Part.TheVariants.{Page, Script}
use Rattle.run_ends.specs.Refusals.{page_stop, sheet_stop}
use Rattle.run_ends.specs.declared.stops.Stop.{Stop}
use Rattle.treeped_app.specs.Modes.{Texts, Inputs}
use Rattle.treeped_app.specs.Runs.{IsSheetOf}
use Rattle.treeped_app.specs.Readings.{read_as, read_script_as, statements_in, read_inputs, ◌>>=◌}

-- ---- the three texts of a page, one after another

abbrev page_in : Option ℕ → Texts → Result (LabelTree × List Named) Stop
page_in k x = read_as (page_stop (Page k) x.page) (read_page x.page [])

abbrev sheet_in : Texts → List Named → Result (Sheet × List Named) Stop
sheet_in x names = read_as (sheet_stop x.sheet) (read_sheet x.sheet names)

abbrev script_in : Mode → Option ℕ → Texts → List Named → Result (List ExactStatement × List Named) Stop
script_in m k x names = read_script_as (Script k) x.script (statements_in m x.script names)

abbrev all_read : LabelTree × List Named → Sheet × List Named → List ExactStatement × List Named → Inputs
all_read p s j = record { tree = p.0; sheet = s.0; stmts = wides j.0; exact = j.0; names = j.1 }

abbrev all_three : LabelTree × List Named → Sheet × List Named → List ExactStatement × List Named → Result Inputs Stop
all_three p s j = Ok (all_read p s j)

abbrev behind_sheet : Mode → Option ℕ → Texts → LabelTree × List Named → Sheet × List Named → Result Inputs Stop
behind_sheet m k x p s = script_in m k x s.1 >>= all_three p s

abbrev behind_page : Mode → Option ℕ → Texts → LabelTree × List Named → Result Inputs Stop
behind_page m k x p = sheet_in x p.1 >>= behind_sheet m k x p

-- ---- what was read of the sheet

then_ok : {A B : Type 0} (x : Result A Stop) (f : A → Result B Stop) (y : B) → (x >>= f) ≡ Ok y → (a : A) × (x ≡ Ok a) × (f a ≡ Ok y)
then_ok (Ok a) f y is = (a, refl, is)
then_ok (Err e) f y is = cc

ending_ok : (stop : SheetFault → Stop) (x : Ending Sheet) (r : Sheet × List Named) → read_as stop x ≡ Ok r → x ≡ (r.1, Ok r.0)
ending_ok stop (names, Ok s) r is = let same : (s, names) ≡ r = cc in ap (λ (z : Sheet × List Named). (z.1, Ok z.0)) same
ending_ok stop (names, Err e) r is = cc

pub sheet_read : (m : Mode) (k : Option ℕ) (x : Texts) (i : Inputs) → read_inputs m k x ≡ Ok i → IsSheetOf x.sheet i.sheet
unfolding read_inputs
sheet_read m k x i is =
    let p = then_ok (page_in k x) (behind_page m k x) i is in
    let s = then_ok (sheet_in x p.0.1) (behind_sheet m k x p.0) i p.2 in
    let j = then_ok (script_in m k x s.0.1) (all_three p.0 s.0) i s.2 in
    let made : Inputs = all_read p.0 s.0 j.0 in
    let both : all_three p.0 s.0 j.0 ≡ Ok i = j.2 in
    let same : made ≡ i = cc in
    subst (λ (z : Inputs). IsSheetOf x.sheet z.sheet) same (p.0.1, s.0.1, ending_ok (sheet_stop x.sheet) (read_sheet x.sheet p.0.1) s.0 s.1)

-- what is read of one sheet for two pages is alike
pub one_sheet_read : (m m' : Mode) (k k' : Option ℕ) (x y : Texts) (i j : Inputs) → x.sheet ≡ y.sheet → read_inputs m k x ≡ Ok i → read_inputs m' k' y ≡ Ok j → AreAlikeSheets i.sheet j.sheet
one_sheet_read m m' k k' x y i j same is is' =
    let a = sheet_read m k x i is in
    let b = sheet_read m' k' y j is' in
    one_shape y.sheet a.0 b.0 a.1 b.1 i.sheet j.sheet (subst (λ (z : List ℕ). read_sheet z a.0 ≡ (a.1, Ok i.sheet)) same a.2) b.2

-- the statements that are judged are those of the script, with calls that may select more
pub wide_read : (m : Mode) (k : Option ℕ) (x : Texts) (i : Inputs) → read_inputs m k x ≡ Ok i → wides i.exact ≡ i.stmts
unfolding read_inputs
wide_read m k x i is =
    let p = then_ok (page_in k x) (behind_page m k x) i is in
    let s = then_ok (sheet_in x p.0.1) (behind_sheet m k x p.0) i p.2 in
    let j = then_ok (script_in m k x s.0.1) (all_three p.0 s.0) i s.2 in
    let made : Inputs = all_read p.0 s.0 j.0 in
    let both : all_three p.0 s.0 j.0 ≡ Ok i = j.2 in
    let same : made ≡ i = cc in
    subst (λ (z : Inputs). wides z.exact ≡ z.stmts) same refl
