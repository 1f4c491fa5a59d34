-- A write to the last entry of a list of loads.
use Rattle.std.proofs.Common.{◌≡◌, ℕ, ◌-◌, List, [], ◌∷◌, ◌++◌, length, map, get_or, true, false, ap, sym, ◌∙◌, length-append, arith}
use Rattle.std.proofs.Math.ListN.{set}
use Rattle.std.proofs.lemmas.List.{map-set, length-map}
use Rattle.std.proofs.Math.ListN.{get_or-map}
use Rattle.std.proofs.Math.Seq.{set-append_seam, get_or-append_seam}
use Rattle.tp_io.specs.Files.{Load}
use Rattle.tp_io.specs.LoadLists.{load_of}
use Rattle.tp_io.specs.declared.load_list.Entry.{Entry}

-- where the last load is listed as one that didn't fail, the entry that is written lists it as failed
pub failed_last : (es : List Entry) (n : ℕ) (before : List Load) (name : List ℕ) (e : Entry)
    → n ≡ length es → map load_of es ≡ before ++ record { name = name; failed = false } ∷ [] → e ≡ get_or es (n - 1) e
    → map load_of (set es (n - 1) (record { name = e.name; failed = true })) ≡ before ++ record { name = name; failed = true } ∷ []
failed_last es n before name e count was is =
    let load : Load = record { name = name; failed = false } in
    let ended : Load = record { name = name; failed = true } in
    let place : n - 1 ≡ length before =
    omega (arith, length-map es load_of, ap length was, length-append before (load ∷ [])) in
    let found : load_of e ≡ load =
    ap load_of (rw place at is) ∙ sym (get_or-map load_of es (length before) e) ∙ ap (λ (ls : List Load). get_or ls (length before) (load_of e)) was ∙ get_or-append_seam before load [] (load_of e) in
    let written : Entry = record { name = e.name; failed = true } in
    let named : load_of written ≡ ended = ap (λ (l : Load). let l' : Load = record { name = l.name; failed = true } in l') found in
    rw (map-set load_of es (n - 1) written, was, place) (set-append_seam before load [] (load_of written) ∙ ap (λ (l : Load). before ++ l ∷ []) named)
