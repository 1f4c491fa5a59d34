-- What is so of one of the best answers of a site.
use Rattle.std.proofs.Common.{◌≡◌, ℕ, ◌+◌, ◌<◌, ◌++◌, zero, arith, Bool, true, false, ◌||◌, List, [], ◌∷◌, length, map, take, get_or, Some, slice_get, suc, refl, sym, ap, ◌∙◌}
use Rattle.std.specs.List.{list_any}
use Rattle.std.proofs.Math.Seq.{take-length}
use Rattle.std.proofs.lemmas.List.{length-map, get_or-map}
use Rattle.std.proofs.lemmas.List.Folds.{list_any_more, list_any_at}
use Rattle.std.proofs.lemmas.Option.{slice_get-get_or}
use Rattle.tp_base.specs.declared.places.Place.{Place}
use Rattle.css_read.specs.Sheets.{Item}
use Rattle.usage_report.specs.Answers.{Answer, unused}
use Rattle.site_judge.specs.Sites.{Best}
use Rattle.site_judge.specs.SiteReport.{AreReportable}
use Rattle.treeped_app.specs.Modes.{is_unused}
use Rattle.treeped_app.specs.Verdicts.{is_answer_so}
use Rattle.treeped_app.specs.declared.statuses.Question.{Question}

pub best_each : (places : List (List Place)) (items : List Item) (bests : List Best) → AreReportable places items bests → length items ≡ length bests
best_each places [] [] are = refl
best_each places [] (b ∷ bests) are = absurd are
best_each places (i ∷ items) [] are = absurd are
best_each places (i ∷ items) (b ∷ bests) are = ap suc (best_each places items bests are.1)

module _ (q : Question) (bests : List Best) (i : ℕ) (r : Bool) where
  abbrev answers : List Answer
  answers = map (λ (b : Best). b.answer) bests

  abbrev any : Best
  any = record { page = 0; answer = unused }

  so_here : i < length bests → ((b : Best) → slice_get bests i ≡ Some b → r ≡ is_answer_so q b.answer) → r ≡ is_answer_so q (get_or answers i unused)
  so_here less is = is (get_or bests i any) (slice_get-get_or bests i any less) ∙ ap (is_answer_so q) (sym (get_or-map (λ (b : Best). b.answer) bests i any unused less))

  less_answers : i < length bests → i < length answers
  less_answers less = rw (length-map bests (λ (b : Best). b.answer)) less

  pub so_then : i < length bests → ((b : Best) → slice_get bests i ≡ Some b → r ≡ is_answer_so q b.answer) → r ≡ true → list_any (is_answer_so q) answers ≡ true
  so_then less is so = list_any_at (is_answer_so q) answers i unused (less_answers less) (sym (so_here less is) ∙ so)

  pub so_next : i < length bests → ((b : Best) → slice_get bests i ≡ Some b → r ≡ is_answer_so q b.answer) → r ≡ false → list_any (is_answer_so q) (take i answers) ≡ false
      → list_any (is_answer_so q) (take (i + 1) answers) ≡ false
  so_next less is so before = list_any_more (is_answer_so q) answers i unused (less_answers less) ∙ ap (λ b. b || is_answer_so q (get_or answers i unused)) before ∙ (sym (so_here less is) ∙ so)

unused_more : (bests : List Best) (i : ℕ) (r : Bool) → i < length bests → ((b : Best) → slice_get bests i ≡ Some b → r ≡ is_unused b.answer)
    → take i (map is_unused (map (λ (b : Best). b.answer) bests)) ++ r ∷ [] ≡ take (suc i) (map is_unused (map (λ (b : Best). b.answer) bests))
unused_more [] i r less is = absurd (omega (arith, less))
unused_more (b ∷ bests) zero r less is = ap (λ z. z ∷ []) (is b refl)
unused_more (b ∷ bests) (suc i) r less is = ap (λ z. is_unused b.answer ∷ z) (unused_more bests i r (omega (arith, less)) is)

pub unused_next : (bests : List Best) (i : ℕ) (r : Bool) → i < length bests → ((b : Best) → slice_get bests i ≡ Some b → r ≡ is_unused b.answer)
    → take i (map is_unused (map (λ (b : Best). b.answer) bests)) ++ r ∷ [] ≡ take (i + 1) (map is_unused (map (λ (b : Best). b.answer) bests))
unused_next bests i r less is =
    let next : suc i ≡ i + 1 = omega arith in
    unused_more bests i r less is ∙ ap (λ k. take k (map is_unused (map (λ (b : Best). b.answer) bests))) next

pub unused_whole : (bests : List Best) (n : ℕ) → n ≡ length bests → take n (map is_unused (map (λ (b : Best). b.answer) bests)) ≡ map is_unused (map (λ (b : Best). b.answer) bests)
unused_whole bests n is =
    let answers = map (λ (b : Best). b.answer) bests in
    ap (λ k. take k (map is_unused answers)) (is ∙ sym (length-map answers is_unused ∙ length-map bests (λ (b : Best). b.answer))) ∙ take-length (map is_unused answers)
