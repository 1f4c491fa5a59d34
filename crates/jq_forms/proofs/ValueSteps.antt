-- The calls of a value, one by one.
use Rattle.std.proofs.Common.{◌≡◌, ℕ, zero, suc, ◌-◌, ◌<◌, Bool, true, false, ◌&&◌, not, if◌then◌else◌, List, [], ◌∷◌, length, map, drop, refl, sym, ap, ◌∙◌, arith, codes}
use Rattle.std.proofs.lemmas.List.{drop_all, length-drop}
use Rattle.tp_base.proofs.Truths.{and_false}
use Rattle.jq_words.specs.Words.{Word, is_mark, is_any_name, is_name_among, fits, first_is, spelled}
use Rattle.jq_cursor.specs.Keywords.{jquery}
use Rattle.jq_words.specs.Results.{IsRest}
use Rattle.jq_words.proofs.Rests.{of_rest, behind_first, two_passed}
use Rattle.jq_words.proofs.FitSteps.{fits_one}
use Rattle.jq_cursor.specs.Lists.{Extent, extent}
use Rattle.jq_cursor.proofs.NoteSteps.{dropped}
use Rattle.jq_forms.specs.Values.{begins_bound, reads_with, reads_value, behind_extent, behind_list, is_known, is_chain_call, are_chain_calls}
use Rattle.jq_forms.specs.declared.value_chains.TheConstants.{READ_BARE, READ_ONE, READ_SINGLE}

pub same_bare : map (λ k. k.now) READ_BARE ≡ (codes "val" ∷ codes "text" ∷ [])
same_bare = refl

pub same_one : map (λ k. k.now) READ_ONE ≡ (codes "css" ∷ codes "data" ∷ [])
same_one = refl

pub same_single : map (λ k. k.now) READ_SINGLE ≡ (codes "attr" ∷ [])
same_single = refl

-- ---- one call

pub no_call : (exact : Bool) (ws : List Word) → fits (is_any_name ∷ is_mark (codes "(") ∷ []) ws ≡ false → is_chain_call exact ws ≡ false
unfolding is_chain_call
no_call exact ws other = rw other refl

pub unknown_call : (exact : Bool) (ws : List Word) → is_known exact (spelled ws) ≡ false → is_chain_call exact ws ≡ false
unfolding is_chain_call
unknown_call exact ws other = rw (other, and_false (fits (is_any_name ∷ is_mark (codes "(") ∷ []) ws)) refl

pub other_call : (exact : Bool) (ws : List Word) → fits (is_any_name ∷ is_mark (codes "(") ∷ []) ws ≡ true → is_known exact (spelled ws) ≡ true
    → is_chain_call exact ws ≡ not (reads_value (spelled ws) (drop 1 (drop 1 ws)))
unfolding is_chain_call
other_call exact ws is known = rw (is, known, two_passed ws) refl

reading : (ws : List Word) (e : Extent) → e ≡ extent (drop 1 (drop 1 ws)) → reads_value (spelled ws) (drop 1 (drop 1 ws)) ≡ reads_with (spelled ws) e.count (drop 1 (drop 1 ws))
unfolding reads_value extent
reading ws e is = rw is refl

pub one_call : (exact : Bool) (ws : List Word) (e : Extent) → fits (is_any_name ∷ is_mark (codes "(") ∷ []) ws ≡ true → is_known exact (spelled ws) ≡ true
    → e ≡ extent (drop 1 (drop 1 ws)) → reads_with (spelled ws) e.count (drop 1 (drop 1 ws)) ≡ false → is_chain_call exact ws ≡ true
one_call exact ws e is known here reads = other_call exact ws is known ∙ ap not (reading ws e here ∙ reads)

pub no_other_call : (exact : Bool) (ws : List Word) (e : Extent) → fits (is_any_name ∷ is_mark (codes "(") ∷ []) ws ≡ true → is_known exact (spelled ws) ≡ true
    → e ≡ extent (drop 1 (drop 1 ws)) → reads_with (spelled ws) e.count (drop 1 (drop 1 ws)) ≡ true → is_chain_call exact ws ≡ false
no_other_call exact ws e is known here reads = other_call exact ws is known ∙ ap not (reading ws e here ∙ reads)

-- ---- all of them

nothing : (ws : List Word) → IsRest ws []
nothing ws = record { shorter = omega arith; last = drop_all (length ws - 0) ws (omega arith) }

chosen : (b : Bool) (ws rest : List Word) → IsRest ws rest → IsRest ws (if b then rest else [])
chosen true ws rest part = part
chosen false ws rest part = nothing ws

-- the words behind a list are the last of those that begin it
behind : (ws : List Word) → IsRest ws (behind_list ws)
unfolding behind_list extent
behind ws = chosen _ ws _ (of_rest ws _ _ (dropped _ ws) (behind_first _))

skips : (exact : Bool) (n : ℕ) (ws : List Word) → are_chain_calls exact n ws ≡ are_chain_calls exact 0 (drop n ws)
unfolding are_chain_calls
skips exact zero ws = refl
skips exact (suc n) [] = refl
skips exact (suc n) (w ∷ ws) = skips exact n ws

member : (w : Word) (ws : List Word) → fits (is_mark (codes ".") ∷ is_any_name ∷ []) (w ∷ ws) ≡ (is_mark (codes ".") w && first_is is_any_name ws)
unfolding fits
member w ws = ap (λ b. is_mark (codes ".") w && b) (fits_one is_any_name ws)

one : (exact : Bool) (w : Word) (ws : List Word) → fits (is_mark (codes ".") ∷ is_any_name ∷ []) (w ∷ ws) ≡ true → is_chain_call exact ws ≡ true
    → are_chain_calls exact 0 (w ∷ ws) ≡ are_chain_calls exact (length ws - length (behind_list (drop 2 ws))) ws
unfolding are_chain_calls
one exact w ws is call = rw (sym (member w ws) ∙ is, call) refl

next : (exact : Bool) (w : Word) (ws : List Word) → fits (is_mark (codes ".") ∷ is_any_name ∷ []) (w ∷ ws) ≡ true → is_chain_call exact ws ≡ true
    → are_chain_calls exact 0 (w ∷ ws) ≡ are_chain_calls exact 0 (behind_list (drop 2 ws))
next exact w ws is call =
    one exact w ws is call ∙ skips exact (length ws - length (behind_list (drop 2 ws))) ws
    ∙ ap (are_chain_calls exact 0) (of_rest ws (drop 2 ws) (behind_list (drop 2 ws)) (dropped 2 ws) (behind (drop 2 ws))).last

pub behind_it : (e : Extent) (ws rest : List Word) → e ≡ extent ws → behind_extent e ≡ rest → behind_list ws ≡ rest
unfolding behind_list
behind_it e ws rest is ends = ap behind_extent (sym is) ∙ ends

pub none_behind : (exact : Bool) (e : Extent) (ws : List Word) → e ≡ extent ws → behind_extent e ≡ [] → are_chain_calls exact 0 (behind_list ws) ≡ true
unfolding are_chain_calls
none_behind exact e ws is ends = ap (are_chain_calls exact 0) (behind_it e ws [] is ends)

pub goes_on : (exact : Bool) (ws rest : List Word) (e : Extent) → fits (is_mark (codes ".") ∷ is_any_name ∷ []) ws ≡ true → is_chain_call exact (drop 1 ws) ≡ true
    → e ≡ extent (drop 1 (drop 1 (drop 1 ws))) → behind_extent e ≡ rest → are_chain_calls exact 0 ws ≡ are_chain_calls exact 0 rest
unfolding fits
goes_on exact [] rest e is call here ends = cc
goes_on exact (w ∷ ws) rest e is call here ends = next exact w ws is call ∙ ap (are_chain_calls exact 0) (behind_it e (drop 2 ws) rest (here ∙ ap extent (two_passed ws)) ends)

pub over : (exact : Bool) (ws : List Word) (e : Extent) → fits (is_mark (codes ".") ∷ is_any_name ∷ []) ws ≡ true → is_chain_call exact (drop 1 ws) ≡ true
    → e ≡ extent (drop 1 (drop 1 (drop 1 ws))) → behind_extent e ≡ [] → are_chain_calls exact 0 ws ≡ true
unfolding are_chain_calls
over exact ws e is call here ends = goes_on exact ws [] e is call here ends

pub fails : (exact : Bool) (ws : List Word) → fits (is_mark (codes ".") ∷ is_any_name ∷ []) ws ≡ true → is_chain_call exact (drop 1 ws) ≡ false → are_chain_calls exact 0 ws ≡ false
unfolding fits are_chain_calls
fails exact [] is other = cc
fails exact (w ∷ ws) is other = rw (sym (member w ws) ∙ is, other) refl

pub ends : (exact : Bool) (ws : List Word) → fits (is_mark (codes ".") ∷ is_any_name ∷ []) ws ≡ false → are_chain_calls exact 0 ws ≡ true
unfolding are_chain_calls
ends exact [] other = refl
ends exact (w ∷ ws) other = rw (sym (member w ws) ∙ other) refl

pub shorter : (ws rest : List Word) (e : Extent) → fits (is_mark (codes ".") ∷ is_any_name ∷ []) ws ≡ true
    → e ≡ extent (drop 1 (drop 1 (drop 1 ws))) → behind_extent e ≡ rest → length rest < length ws
unfolding fits
shorter [] rest e is here ends = cc
shorter (w ∷ ws) rest e is here ends =
    let part = behind (drop 2 ws) in
    let same : length (behind_list (drop 2 ws)) ≡ length rest = ap length (behind_it e (drop 2 ws) rest (here ∙ ap extent (two_passed ws)) ends) in
    let less : length (drop 2 ws) ≡ length ws - 2 = length-drop 2 ws in
    omega (arith, same, less, part.shorter)

-- ---- bound names

pub no_first : (bound : Bool) (ws : List Word) → ws ≡ [] → begins_bound bound ws ≡ false
unfolding first_is
no_first bound ws none = rw none refl

pub other_first : (bound : Bool) (ws : List Word) (w : Word) → ws ≡ w ∷ drop 1 ws → is_any_name w ≡ false → begins_bound bound ws ≡ false
unfolding first_is
other_first bound [] w here other = cc
other_first bound (v ∷ ws) w here other = let same : v ≡ w = cc in rw (same, other) refl

pub jquery_first : (bound : Bool) (ws : List Word) (w : Word) → ws ≡ w ∷ drop 1 ws → is_any_name w ≡ true → is_name_among jquery w ≡ true → begins_bound bound ws ≡ false
unfolding first_is
jquery_first bound [] w here name is = cc
jquery_first bound (v ∷ ws) w here name is = let same : v ≡ w = cc in rw (same, name, is) refl

pub bound_first : (bound : Bool) (ws : List Word) (w : Word) → ws ≡ w ∷ drop 1 ws → is_any_name w ≡ true → is_name_among jquery w ≡ false → begins_bound bound ws ≡ bound
unfolding first_is
bound_first bound [] w here name other = cc
bound_first bound (v ∷ ws) w here name other = let same : v ≡ w = cc in rw (same, name, other) refl
