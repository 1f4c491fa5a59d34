use Rattle.std.proofs.Common.{◌<◌, List, ℕ, length, subst}
use Rattle.need_table.specs.Rows.{row_in}
use Rattle.need_table.proofs.RowLemmas.{row_few}
use Rattle.need_table.proofs.rows.Rows.row.Goals as goal

pub returns-in-Some-clause-few : goal.returns-in-Some-clause-few
returns-in-Some-clause-few c = λ p. subst (λ (z : List (List ℕ)). length (row_in z p) < 18446744073709551616) c.self.view_is (row_few c.self.inside.rows.items p)

pub returns-in-None-clause-few : goal.returns-in-None-clause-few
returns-in-None-clause-few c = λ p. subst (λ (z : List (List ℕ)). length (row_in z p) < 18446744073709551616) c.self.view_is (row_few c.self.inside.rows.items p)
