-- What is written behind a text, what each of several views has, and a text that is cut short.
use Rattle.std.proofs.Common.{◌≡◌, ℕ, List, [], ◌∷◌, ◌++◌, map, Option, Result, Ok, Err, OnOk, All, None, inr, refl}
use Rattle.std.proofs.lemmas.List.Elements.{All-nil, All-cons, All-head, All-tail}
use Rattle.tp_io.specs.Sinks.{Adds, AddsPrefix, Rose}
use Rattle.tp_io.proofs.SinkLemmas.{adds_more}
use Rattle.limits.specs.declared.budgets.Limits.{Limits}
use Rattle.command_words.specs.declared.words.Mode.{Mode}
use Rattle.command_words.specs.declared.words.Mode.TheVariants.{Report, Prune, Dead, Runs, Site, SitePrune}
use Rattle.usage_report.specs.declared.faults.ReportFault.{ReportFault}
use Rattle.usage_report.specs.declared.faults.ReportFault.TheVariants.{Write, Memory}
use Rattle.treeped_app.specs.Inputs.{IsSaidOf, Written}
use Rattle.treeped_app.specs.Modes.{Texts, Said, report_on, text_on}
use Rattle.run_ends.specs.Tells.{put_of}
use Rattle.run_ends.specs.Stops.{stop_of}

pub ok_after : {T E : Type 0} (r : Result T E) (old mid new : Option (List ℕ)) (xs ys : List ℕ) → Adds old mid xs → OnOk r (Adds mid new ys) → OnOk r (Adds old new (xs ++ ys))
ok_after (Ok x) old mid new xs ys first second = adds_more old mid new xs ys first second
ok_after (Err e) old mid new xs ys first second = tt

pub all_unmapped : {X Y : Type 0} (P : X → Type 0) (f : Y → X) (ys : List Y) → All P (map f ys) → All (λ y. P (f y)) ys
all_unmapped P f [] all = All-nil (λ y. P (f y))
all_unmapped P f (y ∷ ys) all = All-cons (λ z. P (f z)) y ys (All-head P (f y) (map f ys) all) (all_unmapped P f ys (All-tail P (f y) (map f ys) all))

pub cut_short : (m : Mode) (limits : Limits) (x : Texts) (text : Said → List ℕ) (held held' : Option (List ℕ)) (faults faults' : ℕ) (said : Said) (f : ReportFault) → said.texts ≡ x → IsSaidOf m limits None said
    → AddsPrefix held held' (text said) → (f ≡ Write → Rose faults faults') → Written m limits x text (put_of held held' faults faults') (Err (stop_of f))
cut_short m limits x text held held' faults faults' said Write same is front rose = (said, same, is, front, rose refl)
cut_short m limits x text held held' faults faults' said Memory same is front rose = inr (said, same, is, front)

-- a mode that writes the report alone
pub report_alone : (m : Mode) (s : Said) → (m ≡ Prune → ⊥) → (m ≡ Dead → ⊥) → (m ≡ Runs → ⊥) → text_on m s ≡ report_on s
report_alone Report s not_prune not_dead not_runs = refl
report_alone Prune s not_prune not_dead not_runs = absurd (not_prune refl)
report_alone Dead s not_prune not_dead not_runs = absurd (not_dead refl)
report_alone Runs s not_prune not_dead not_runs = absurd (not_runs refl)
report_alone Site s not_prune not_dead not_runs = refl
report_alone SitePrune s not_prune not_dead not_runs = refl
