-- Loading one file after another.
use Rattle.std.proofs.Common.{◌≡◌, ℕ, ◌≤◌, List, [], ◌∷◌, ◌++◌, length, Some, None, IfSome, Ok, Err, refl, sym, ap, ◌∙◌, subst, append_assoc, append-nil}
use Rattle.std.proofs.lemmas.List.Elements.{All-nil, All-cons}
use Rattle.tp_io.specs.Files.{Load}
use Rattle.tp_base.specs.declared.places.TheConstants.{MOST_BYTES}
use Rattle.run_ends.specs.declared.stops.Stop.{Stop}
use Rattle.run_ends.specs.declared.stops.Stop.TheVariants.{Words, TooLarge, ReadFault, Unread, Judging, WriteFault, NoMemory}
use Rattle.treeped_app.specs.Tasks.{Wanted, succeeded, failed, loads_of}
use Rattle.treeped_app.specs.Runs.{Told, Holds, Fits}
use Rattle.treeped_app.specs.Inputs.{OneLoaded, AllLoaded, AreHeldBy, IsLastOf}

fits : (told : Told) (name text : List ℕ) → Holds told name text → length text ≤ MOST_BYTES → Fits told name
fits told name text holds within = elim (told name) as (λ o. IfSome o (λ bytes. text ≡ bytes) → IfSome o (λ bytes. length bytes ≤ MOST_BYTES)) [
  | None ↦ λ h. tt
  | Some bytes ↦ λ h. rw h at within
] holds

-- the first of them
module _ (told : Told) (w : Wanted) (ws : List Wanted) (start end : List Load) where
  first_last : (last : Load) → end ≡ start ++ last ∷ [] → IsLastOf told (w ∷ ws) w start end last
  first_last last loads = record { before = []; after = ws; order = refl; loads = rw loads (simp append_assoc); fit = All-nil (λ (b : Wanted). Fits told b.name) }

  pub first_stops : (e : Stop) → OneLoaded told w.name w.part start end (Err e) → AllLoaded told (w ∷ ws) start end (Err e)
  first_stops Words is = absurd is
  first_stops (TooLarge p) is = (w, sym is.0, first_last (succeeded w.name) is.1, is.2)
  first_stops (ReadFault p) is = (w, sym is.0, first_last (failed w.name) is.1)
  first_stops (Unread refusal) is = absurd is
  first_stops (Judging f) is = absurd is
  first_stops WriteFault is = absurd is
  first_stops NoMemory is = record { front = []; behind = loads_of (w ∷ ws); order = refl; loads = is ∙ sym (append-nil start) }

-- the others, behind it
module _ (told told' : Told) (w : Wanted) (ws : List Wanted) (start mid end : List Load) (x : List ℕ) (same : told' ≡ told) (first : OneLoaded told w.name w.part start mid (Ok x)) where
  later_last : (v : Wanted) (last : Load) → IsLastOf told ws v mid end last → IsLastOf told (w ∷ ws) v start end last
  later_last v last is = record {
    before = w ∷ is.before;
    after = is.after;
    order = ap (λ z. w ∷ z) is.order;
    loads = is.loads ∙ ap (λ z. z ++ loads_of is.before ++ last ∷ []) first.0 ∙ ap (λ z. z ++ last ∷ []) (append_assoc start (succeeded w.name ∷ []) (loads_of is.before));
    fit = All-cons (λ (b : Wanted). Fits told b.name) w is.before (fits told w.name x first.1 first.2) is.fit;
  }

  behind : (e : Stop) → AllLoaded told ws mid end (Err e) → AllLoaded told (w ∷ ws) start end (Err e)
  behind Words is = absurd is
  behind (TooLarge p) (v, part, last, exceeds) = (v, part, later_last v (succeeded v.name) last, exceeds)
  behind (ReadFault p) (v, part, last) = (v, part, later_last v (failed v.name) last)
  behind (Unread refusal) is = absurd is
  behind (Judging f) is = absurd is
  behind WriteFault is = absurd is
  behind NoMemory some = record {
    front = succeeded w.name ∷ some.front;
    behind = some.behind;
    order = ap (λ z. succeeded w.name ∷ z) some.order;
    loads = some.loads ∙ ap (λ z. z ++ some.front) first.0 ∙ append_assoc start (succeeded w.name ∷ []) some.front;
  }

  pub later_stops : (e : Stop) → AllLoaded told' ws mid end (Err e) → AllLoaded told (w ∷ ws) start end (Err e)
  later_stops e is = behind e (subst (λ (t : Told). AllLoaded t ws mid end (Err e)) same is)

  pub all_had : (xs : List (List ℕ)) → AllLoaded told' ws mid end (Ok xs) → AllLoaded told (w ∷ ws) start end (Ok (x ∷ xs))
  all_had xs is = (
    is.0 ∙ ap (λ z. z ++ loads_of ws) first.0 ∙ append_assoc start (succeeded w.name ∷ []) (loads_of ws),
    (first.1, first.2, subst (λ (t : Told). AreHeldBy t ws xs) same is.1),
  )

-- a file alone
pub one_had : (told : Told) (w : Wanted) (start end : List Load) (x : List ℕ) → OneLoaded told w.name w.part start end (Ok x) → AllLoaded told (w ∷ []) start end (Ok (x ∷ []))
one_had told w start end x is = (is.0, (is.1, is.2, tt))
