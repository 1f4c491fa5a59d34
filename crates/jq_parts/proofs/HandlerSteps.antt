-- Handlers and declarations, one more, and back to those before.
use Rattle.std.proofs.Common.{◌≡◌, ℕ, List, [], ◌∷◌, ◌++◌, length, take, Option, Some, None, sym, ap, ◌∙◌, arith}
use Rattle.std.proofs.Math.Seq.{take-append_seam}
use Rattle.std.specs.List.{take-map}
use Rattle.std.proofs.lemmas.List.{map-append, take_all, length-map}
use Rattle.jq_parts.specs.declared.scopes.Handler as code
use Rattle.jq_parts.specs.declared.values.Declaration as declaration
use Rattle.jq_parts.specs.Views.{declaration_of, declarations_of}
use Rattle.jq_parts.specs.Scopes.{Handler, with_handler}
use Rattle.jq_parts.specs.ScopeViews.{handler_of, handlers_of}

pub pushed : (hs : List code.Handler) (h : code.Handler) → handlers_of (hs ++ h ∷ []) ≡ handlers_of hs ++ handler_of h ∷ []
pushed hs h = map-append handler_of hs (h ∷ [])

pub declared : (ds : List declaration.Declaration) (d : declaration.Declaration) → declarations_of (ds ++ d ∷ []) ≡ declarations_of ds ++ declaration_of d ∷ []
declared ds d = map-append declaration_of ds (d ∷ [])

pub as_many : (ds : List declaration.Declaration) → length ds ≡ length (declarations_of ds)
as_many ds = sym (length-map ds declaration_of)

pub declarations_cut : (n : ℕ) (ds : List declaration.Declaration) → declarations_of (take n ds) ≡ take n (declarations_of ds)
declarations_cut n ds = sym (take-map declaration_of n ds)

pub cut : (n : ℕ) (hs : List code.Handler) → handlers_of (take n hs) ≡ take n (handlers_of hs)
cut n hs = sym (take-map handler_of n hs)

back_all : (n : ℕ) (h : Option Handler) (hs : List Handler) → n ≡ length hs → take n (with_handler h hs) ≡ hs
back_all n None hs count = take_all n hs (omega (arith, count))
back_all n (Some h) hs count = ap (λ k. take k (hs ++ h ∷ [])) count ∙ take-append_seam hs (h ∷ [])

-- the handlers before it are back where it is taken away
pub back : (n : ℕ) (h : Option Handler) (hs : List code.Handler) → n ≡ length hs → take n (with_handler h (handlers_of hs)) ≡ handlers_of hs
back n h hs count = back_all n h (handlers_of hs) (count ∙ sym (length-map hs handler_of))
