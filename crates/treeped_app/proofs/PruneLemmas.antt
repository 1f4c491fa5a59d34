-- What may go of a sheet is judged.
use Rattle.std.proofs.Common.{◌≡◌, List, [], ◌∷◌, length, map, suc, refl, sym, ap}
use Rattle.std.proofs.lemmas.Simd.{map-map}
use Rattle.tp_base.specs.declared.places.Place.{Place}
use Rattle.css_read.specs.Effects.{AreJudged}
use Rattle.css_read.specs.Pruned.{Flagged, with_flags}
use Rattle.css_read.specs.Sheets.{Outcome, judged, skipped as left_out, Item}
use Rattle.usage_report.specs.Answers.{Answer, used, maybe, used_unshown, unused, skipped, spent}
use Rattle.usage_report.specs.Reportable as page
use Rattle.usage_report.specs.Views.{answer_of}
use Rattle.usage_report.specs.declared.answers.Answer as code
use Rattle.site_judge.specs.Sites.{Best}
use Rattle.site_judge.specs.SiteReport.{places_on, AreReportable}
use Rattle.treeped_app.specs.Modes.{is_unused}

module _ (places : List Place) where
  one_judged : (i : Item) (o : Outcome) (a : Answer) (fs : List Flagged) → page.IsReportable places o a → AreJudged fs → AreJudged ((record i { outcome = o }, is_unused a) ∷ fs)
  one_judged i (judged s) (used proof steps shown) fs is are = are
  one_judged i (judged s) (maybe proof steps shown broken) fs is are = are
  one_judged i (judged s) used_unshown fs is are = are
  one_judged i (judged s) unused fs is are = (tt, are)
  one_judged i (judged s) (skipped cause at) fs is are = are
  one_judged i (judged s) spent fs is are = are
  one_judged i (left_out c b) (used proof steps shown) fs is are = are
  one_judged i (left_out c b) (maybe proof steps shown broken) fs is are = are
  one_judged i (left_out c b) used_unshown fs is are = are
  one_judged i (left_out c b) unused fs is are = absurd is
  one_judged i (left_out c b) (skipped cause at) fs is are = are
  one_judged i (left_out c b) spent fs is are = are

  pub items_judged : (items : List Item) (answers : List Answer) → page.AreReportable places items answers → AreJudged (with_flags items (map is_unused answers))
  items_judged [] [] are = tt
  items_judged [] (a ∷ answers) are = absurd are
  items_judged (i ∷ items) [] are = absurd are
  items_judged (i ∷ items) (a ∷ answers) are = one_judged i i.outcome a (with_flags items (map is_unused answers)) are.0 (items_judged items answers are.1)

  pub items_many : (items : List Item) (answers : List Answer) → page.AreReportable places items answers → length answers ≡ length items
  items_many [] [] are = refl
  items_many [] (a ∷ answers) are = absurd are
  items_many (i ∷ items) [] are = absurd are
  items_many (i ∷ items) (a ∷ answers) are = ap suc (items_many items answers are.1)

abbrev answers_in : List Best → List Answer
answers_in bests = map (λ (b : Best). b.answer) bests

pub bests_judged : (places : List (List Place)) (items : List Item) (bests : List Best) → AreReportable places items bests → AreJudged (with_flags items (map is_unused (answers_in bests)))
bests_judged places [] [] are = tt
bests_judged places [] (b ∷ bests) are = absurd are
bests_judged places (i ∷ items) [] are = absurd are
bests_judged places (i ∷ items) (b ∷ bests) are =
    one_judged (places_on places b.page) i i.outcome b.answer (with_flags items (map is_unused (answers_in bests))) are.0.2 (bests_judged places items bests are.1)

pub flags_seen : (answers : List code.Answer) → map (λ a. is_unused (answer_of a)) answers ≡ map is_unused (map answer_of answers)
flags_seen answers = sym (map-map is_unused answer_of answers)
