-- What is left of a sheet, by the answers of a page or by the best ones of a site, does at each node what the sheet does.
use Rattle.std.proofs.Common.{◌≡◌, ℕ, zero, suc, Bool, true, false, List, [], ◌∷◌, length, map, Contains, Option, Some, slice_get, Ok, refl, sym, ap, ◌∙◌, subst}
use Rattle.std.proofs.lemmas.List.{length-map}
use Rattle.tp_base.specs.Names.{Named}
use Rattle.tp_base.proofs.Rising.{Contains-none, Contains-here, Contains-behind}
use Rattle.tree_sem.specs.Trees.{LabelTree}
use Rattle.jq_stmts.specs.Statements.{Statement}
use Rattle.css_read.specs.Pruned.{with_flags, pruned}
use Rattle.css_read.specs.Reading.{read_sheet}
use Rattle.css_read.specs.Sheets.{Item, Sheet}
use Rattle.css_prune.specs.NodeEffects.{IsUnreached, AreUnreached}
use Rattle.css_prune.proofs.AlikeLemmas.{read_again, page_effects_kept}
use Rattle.command_words.specs.declared.words.Mode.{Mode}
use Rattle.command_words.specs.declared.words.Mode.TheVariants.{Prune, SitePrune}
use Rattle.limits.specs.declared.budgets.Limits.{Limits}
use Rattle.usage_report.specs.Answers.{Answer, used, maybe, used_unshown, unused, skipped, spent}
use Rattle.site_judge.specs.Sites.{Best}
use Rattle.treeped_app.specs.Inputs.{IsSaidOf}
use Rattle.treeped_app.specs.Laws.{DoesTheSame}
use Rattle.treeped_app.specs.Modes.{Said, is_unused, guards_in, text_on, text_by, of_last, site_by, site_on, best_in}
use Rattle.treeped_app.specs.Runs.{Run, IsWhole}
use Rattle.treeped_app.specs.Tasks.{Task}
use Rattle.treeped_app.proofs.EachPageLemmas.{place_of, right_many, right_at, never_met, of_page, right_on, site, of_each_page}
use Rattle.treeped_app.proofs.SheetLemmas.{sheet_read}

-- ---- flags

unused_is : (a : Answer) → is_unused a ≡ true → a ≡ unused
unused_is (used proof steps shown) is = cc
unused_is (maybe proof steps shown broken) is = cc
unused_is used_unshown is = cc
unused_is unused is = refl
unused_is (skipped cause at) is = cc
unused_is spent is = cc

flag_unused : (answers : List Answer) (k : ℕ) → slice_get (map is_unused answers) k ≡ Some true → slice_get answers k ≡ Some unused
flag_unused [] k at = cc
flag_unused (a ∷ answers) zero at = let same : is_unused a ≡ true = cc in ap Some (unused_is a same)
flag_unused (a ∷ answers) (suc k) at = flag_unused answers k at

best_at : (bs : List Best) (k : ℕ) → slice_get (map (λ (b : Best). b.answer) bs) k ≡ Some unused → (b : Best) × (slice_get bs k ≡ Some b) × (b.answer ≡ unused)
best_at [] k at = cc
best_at (b ∷ bs) zero at = let same : b.answer ≡ unused = cc in (b, refl, same)
best_at (b ∷ bs) (suc k) at = best_at bs k at

unreached_at : (t : LabelTree) (stmts : List Statement) (items : List Item) (flags : List Bool)
    → ((k : ℕ) (i : Item) → slice_get items k ≡ Some i → slice_get flags k ≡ Some true → IsUnreached t stmts i.outcome) → AreUnreached t stmts (with_flags items flags)
unreached_at t stmts [] flags each = tt
unreached_at t stmts (i ∷ items) [] each = tt
unreached_at t stmts (i ∷ items) (false ∷ flags) each = unreached_at t stmts items flags (λ k x at flag. each (suc k) x at flag)
unreached_at t stmts (i ∷ items) (true ∷ flags) each = (each zero i refl refl, unreached_at t stmts items flags (λ k x at flag. each (suc k) x at flag))

-- ---- a text that was pruned as it is read for one page, on another

same_on : (s : Said) (text : List ℕ) (other : Sheet) (others last : List Named) (flags : List Bool) → text ≡ s.texts.sheet → read_sheet text others ≡ (last, Ok other) → length flags ≡ length other.items
    → AreUnreached s.inputs.tree s.inputs.stmts (with_flags s.inputs.sheet.items flags) → DoesTheSame s (pruned text other flags)
same_on s text other others last flags same read count unreached =
    subst (λ (z : List ℕ). read_sheet z others ≡ (last, Ok other) → DoesTheSame s (pruned z other flags)) (sym same)
    (λ read'. record {
      reads = λ names later is. read_again s.texts.sheet names others later last s.inputs.sheet other flags is read' count;
      effects =
          λ names later again is left events legal v test tells.
          page_effects_kept s.inputs.tree s.inputs.stmts s.texts.sheet names others later last s.inputs.sheet other again flags is read' count left unreached events legal v test tells;
    })
    read

-- ---- one page

pub on_said : (m : Mode) (limits : Limits) (page : Option ℕ) (s : Said) → IsSaidOf m limits page s → DoesTheSame s (text_on Prune s)
on_said m limits page s is =
    let i = s.inputs in
    let right = is.answers.right in
    let read = sheet_read m page s.texts i is.read in
    same_on s s.texts.sheet i.sheet read.0 read.1 (map is_unused s.items) refl read.2
    (length-map s.items is_unused ∙ right_many i.tree i.exact i.stmts (guards_in m i) (length i.names) limits i.sheet.items s.items right)
    (unreached_at i.tree i.stmts i.sheet.items (map is_unused s.items) (λ k x at flag.
    let here = right_at i.tree i.exact i.stmts (guards_in m i) (length i.names) limits i.sheet.items s.items k unused right (flag_unused s.items k flag) in
    let never = never_met i.tree i.exact i.stmts (guards_in m i) (length i.names) limits here.0.outcome here.2 in
    let same : here.0 ≡ x = cc in
    subst (λ (z : Item). IsUnreached i.tree i.stmts z.outcome) same (subst (λ o. IsUnreached i.tree i.stmts o) (sym never.1) never.2)))

pub on_page : (r : Run) (t : Task) (s : Said) → IsWhole r t (s ∷ []) → DoesTheSame s (text_on Prune s)
on_page r t s whole =
    let page = of_page r t (s ∷ []) whole s (Contains-here s s [] refl) in
    on_said t.mode t.limits page.0.number s (record { read = page.1.read; answers = page.1.answers; traces = page.1.traces })

-- ---- several

last_is : (x : Said) (said : List Said) → (s : Said) × Contains (x ∷ said) s × ((f : Said → List ℕ) → of_last f (x ∷ said) ≡ f s)
last_is x [] = (x, Contains-here x x [] refl, λ f. refl)
last_is x (y ∷ said) = let rest = last_is y said in (rest.0, Contains-behind rest.0 x (y ∷ said) rest.1, rest.2)

pub on_site : (r : Run) (t : Task) (said : List Said) → IsWhole r t said → (s : Said) → Contains said s → DoesTheSame s (text_by SitePrune said)
on_site r t [] whole s there = absurd (Contains-none s there)
on_site r t (x ∷ said) whole s there =
    let all = x ∷ said in
    let last = last_is x said in
    let i = last.0.inputs in
    let page = of_page r t all whole last.0 last.1 in
    let read = sheet_read t.mode page.0.number last.0.texts i page.1.read in
    let place = place_of all last.0 last.1 in
    let count : length (map is_unused (best_in all)) ≡ length i.sheet.items =
    length-map (best_in all) is_unused
    ∙ length-map (site_on all).items (λ (b : Best). b.answer)
    ∙ sym ((site r t all whole).one_length place.0 last.0.items place.1)
    ∙ right_many i.tree i.exact i.stmts (guards_in t.mode i) (length i.names) t.limits i.sheet.items last.0.items (right_on r t all whole last.0 last.1)
    in
    let unreached : AreUnreached s.inputs.tree s.inputs.stmts (with_flags s.inputs.sheet.items (map is_unused (best_in all))) =
    unreached_at s.inputs.tree s.inputs.stmts s.inputs.sheet.items (map is_unused (best_in all)) (λ k y at flag.
    let b = best_at (site_on all).items k (flag_unused (best_in all) k flag) in
    let never = (of_each_page r t all whole k b.0 b.1).never_reached b.2 s there in
    let same : never.0 ≡ y = cc in
    subst (λ (z : Item). IsUnreached s.inputs.tree s.inputs.stmts z.outcome) same (subst (λ o. IsUnreached s.inputs.tree s.inputs.stmts o) (sym never.3) never.4))
    in
    subst (λ (z : List ℕ). DoesTheSame s z) (sym (last.2 (site_by SitePrune all)))
    (same_on s last.0.texts.sheet i.sheet read.0 read.1 (map is_unused (best_in all)) (whole.one_sheet last.0 s last.1 there) read.2 count unreached)
