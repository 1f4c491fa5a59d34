-- A script that is read or not.
use Rattle.std.proofs.Common.{◌≡◌, ◌≢◌, ℕ, List, [], Ok, Err, sym, ap, ◌∙◌}
use Rattle.tp_base.specs.Names.{Named}
use Rattle.js_scan.specs.declared.token.ScanFault.TheVariants as scan
use Rattle.jq_stmts.specs.declared.sharp.ExactStmt.{ExactStmt}
use Rattle.jq_stmts.specs.declared.sharp.Sharp.{Sharp}
use Rattle.jq_stmts.specs.Sharp.{ExactStatement, wides}
use Rattle.jq_stmts.specs.SharpViews.{exacts_of}
use Rattle.jq_stmts.specs.Views.{statements_of}
use Rattle.jq_words.specs.declared.faults.ScriptFault.{ScriptFault}
use Rattle.jq_words.specs.declared.faults.ScriptFault.TheVariants as script
use Rattle.jq_words.specs.Words.{Outcome}
use Rattle.jq_read.specs.Script as of_file
use Rattle.treeped_app.specs.Inputs.{IsOpened}
use Rattle.run_ends.specs.declared.refusals.Part.{Part}
use Rattle.run_ends.specs.Refusals.{script_stop}
use Rattle.treeped_app.specs.Runs.{plainly, read_script_as}
use Rattle.jq_exact.specs.Scripts.{marked, exact_in}
use Rattle.jq_exact.specs.declared.marks.Script.{Script}
use Rattle.jq_exact.proofs.MarkLemmas.{wides_marked}

pub not_opened : {X : Type 0} (view : X → List ExactStatement) (names : List Named) (part : Part) (text : List ℕ) (read : Outcome (List ExactStatement × List Named)) (e : ScriptFault) →
    (e ≢ script.Memory → read ≡ Err e) → IsOpened view (read_script_as part text read) (Err (script_stop part text e)) names
not_opened view names part text read (script.Scan (scan.NotUtf8 at)) is = ap (read_script_as part text) (is (λ same. cc))
not_opened view names part text read (script.Scan (scan.BadString at)) is = ap (read_script_as part text) (is (λ same. cc))
not_opened view names part text read (script.Scan (scan.Regexp at)) is = ap (read_script_as part text) (is (λ same. cc))
not_opened view names part text read (script.Scan (scan.Template at)) is = ap (read_script_as part text) (is (λ same. cc))
not_opened view names part text read (script.Scan (scan.BadByte at)) is = ap (read_script_as part text) (is (λ same. cc))
not_opened view names part text read (script.Scan scan.Memory) is = tt
not_opened view names part text read (script.UnknownCall name at) is = ap (read_script_as part text) (is (λ same. cc))
not_opened view names part text read (script.UnknownForm at) is = ap (read_script_as part text) (is (λ same. cc))
not_opened view names part text read (script.ComplexArgument at) is = ap (read_script_as part text) (is (λ same. cc))
not_opened view names part text read (script.DynamicMarkup at) is = ap (read_script_as part text) (is (λ same. cc))
not_opened view names part text read (script.ThisOutside at) is = ap (read_script_as part text) (is (λ same. cc))
not_opened view names part text read (script.UnboundName name at) is = ap (read_script_as part text) (is (λ same. cc))
not_opened view names part text read (script.TooLong at) is = ap (read_script_as part text) (is (λ same. cc))
not_opened view names part text read (script.TooDeep at) is = ap (read_script_as part text) (is (λ same. cc))
not_opened view names part text read (script.TooManyStatements at) is = ap (read_script_as part text) (is (λ same. cc))
not_opened view names part text read (script.TooManyForestNodes at) is = ap (read_script_as part text) (is (λ same. cc))
not_opened view names part text read (script.TooManyAtoms at) is = ap (read_script_as part text) (is (λ same. cc))
not_opened view names part text read script.Memory is = tt

-- ---- a script that is read

-- the statements that are judged, parted from their marks
pub judged_again : (s : Script) (read : List ExactStmt) → exact_in s ≡ exacts_of read → statements_of s.stmts.items ≡ wides (exacts_of read)
judged_again s read same = sym (wides_marked s.stmts.items s.sharp.items) ∙ ap wides same

pub opened_exactly : (part : Part) (text : List ℕ) (old new : List Named) (read : List ExactStmt) (s : Script) → of_file.exact_script text old ≡ Ok (exacts_of read, new) → exact_in s ≡ exacts_of read
    → read_script_as part text (of_file.exact_script text old) ≡ Ok (exact_in s, new)
opened_exactly part text old new read s is same = ap (read_script_as part text) is ∙ ap (λ (z : List ExactStatement). Ok (z, new)) (sym same)

-- a script without marks
pub opened_plainly : (part : Part) (text : List ℕ) (old new : List Named) (s : Script) → s.sharp.items ≡ [] → of_file.script text old ≡ Ok (statements_of s.stmts.items, new)
    → read_script_as part text (plainly (of_file.script text old)) ≡ Ok (exact_in s, new)
opened_plainly part text old new s none is = ap (λ z. read_script_as part text (plainly z)) is ∙ ap (λ (z : List (List Sharp)). Ok (marked s.stmts.items z, new)) (sym none)

pub not_plainly : (part : Part) (text : List ℕ) (old names : List Named) (e : ScriptFault) → (e ≢ script.Memory → of_file.script text old ≡ Err e)
    → IsOpened exact_in (read_script_as part text (plainly (of_file.script text old))) (Err (script_stop part text e)) names
not_plainly part text old names e is = not_opened exact_in names part text (plainly (of_file.script text old)) e (λ other. ap plainly (is other))
