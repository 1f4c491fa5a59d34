-- First rounds as the definitions see them.
use Rattle.std.specs.Prelude.{ℕ, List, map, refl}
use Rattle.std.specs.Coded.{Coded, code_by, coded×, coded_ℕ, coded_list}
use Rattle.closed_page.specs.ClosedPages.{First}

-- the path of a node, an atom of it, and the first round in which the node has it
pub record PageFirst : Type 0 where
  pub at : List ℕ
  pub atom : ℕ
  pub round : ℕ

abbrev pub page_first_code : Coded PageFirst
page_first_code = code_by (List ℕ × (ℕ × ℕ)) (coded× (coded_list coded_ℕ) (coded× coded_ℕ coded_ℕ)) (λ f. (f.at, (f.atom, f.round))) (λ p. record { at = p.0; atom = p.1.0; round = p.1.1 }) (λ f. refl)

abbrev pub firsts_of : List PageFirst → List First
firsts_of fs = map (λ f. (f.at, (f.atom, f.round))) fs
