-- Answers that can be written, and the best of two pages.
use Rattle.std.proofs.Common.{◌≡◌, Bool, true, false, if◌then◌else◌, nat_lt, List, [], ◌∷◌, length, map, sym, ◌∙◌, subst, arith}
use Rattle.std.proofs.lemmas.List.{length-map}
use Rattle.tp_base.specs.declared.places.Place.{Place}
use Rattle.sel_text.specs.Selectors.{Selector}
use Rattle.css_read.specs.Sheets.{judged, Item}
use Rattle.usage_report.specs.declared.answers.Answer as code
use Rattle.usage_report.specs.Views.{answer_of}
use Rattle.usage_report.specs.Answers.{Answer, used, maybe, used_unshown, unused, skipped, spent}
use Rattle.usage_report.specs.Reportable as usage
use Rattle.usage_report.specs.Reportable.{IsReportable}
use Rattle.dead_script.specs.Verdicts.{IsProbed}
use Rattle.site_judge.specs.Sites.{Best, Site, rank, all_better, items_on, first_page, with_page}
use Rattle.site_judge.specs.SiteReport.{IsBestReportable, AreReportable}

pub reportable : (places : List Place) (s : Selector) (a : Answer) → IsProbed places a → IsReportable places (judged s) a
reportable places s (used proof steps shown) is = (tt, is)
reportable places s (maybe proof steps shown broken) is = (tt, is.0, is.1)
reportable places s used_unshown is = tt
reportable places s unused is = tt
reportable places s (skipped cause at) is = absurd is
reportable places s spent is = tt

-- ---- two pages

pub as_many : (site : Site) (xs ys : List code.Answer) → site ≡ first_page (map answer_of xs) → length xs ≡ length ys → length ys ≡ length site.items
as_many site xs ys is same =
    subst (λ (s : Site). length ys ≡ length s.items) (sym is) (sym same ∙ sym (length-map xs answer_of) ∙ sym (length-map (map answer_of xs) (λ a. record { page = 1; answer = a })))

pick : (P : Best → Type 0) (test : Bool) (x y : Best) → P x → P y → P (if test then y else x)
pick P true x y px py = py
pick P false x y px py = px

of_both : (ps qs : List Place) (items : List Item) (xs ys : List Answer) → usage.AreReportable ps items xs → usage.AreReportable qs items ys → AreReportable (ps ∷ qs ∷ []) items (all_better (items_on 1 xs) (items_on 2 ys))
of_both ps qs [] [] [] one two = tt
of_both ps qs [] [] (b ∷ ys) one two = absurd two
of_both ps qs [] (a ∷ xs) ys one two = absurd one
of_both ps qs (i ∷ items) [] ys one two = absurd one
of_both ps qs (i ∷ items) (a ∷ xs) [] one two = absurd two
of_both ps qs (i ∷ items) (a ∷ xs) (b ∷ ys) one two = (
  pick (IsBestReportable (ps ∷ qs ∷ []) i.outcome) (nat_lt (rank b) (rank a)) (record { page = 1; answer = a }) (record { page = 2; answer = b }) (omega arith, omega arith, one.0) (omega arith, omega arith, two.0),
  of_both ps qs items xs ys one.1 two.1,
)

pub both_pages : (site one : Site) (xs ys : List Answer) → one ≡ first_page xs → site ≡ with_page one ys → (ps qs : List Place) (items : List Item) → usage.AreReportable ps items xs → usage.AreReportable qs items ys
    → AreReportable (ps ∷ qs ∷ []) items site.items
both_pages site one xs ys first is ps qs items here there =
    subst (λ (s : Site). AreReportable (ps ∷ qs ∷ []) items s.items) (sym is)
    (subst (λ (o : Site). AreReportable (ps ∷ qs ∷ []) items (with_page o ys).items) (sym first) (of_both ps qs items xs ys here there))
