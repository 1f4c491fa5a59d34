use Rattle.std.proofs.Common.{Some, None, refl, ◌∙◌}
use Rattle.limits.specs.Budgets.{standard}
use Rattle.command_words.specs.Parts.{plain, pairs, nodes, entries, list}
use Rattle.command_words.proofs.ReadLemmas.{limits_from, value_got, value_by}
use Rattle.command_words.proofs.matched.limits_of.Goals as goal

pub returns-in_err-pairs : goal.returns-in_err-pairs
returns-in_err-pairs c = λ ps says.
    let a = value_got ps c.args.matches.now says pairs standard.pairs c.value_or.result None (c.value_or.ensures ∙ rw c.standard-usual.ensures.standard refl) c.in_err-pairs.was in
    c.from_residual.ensures ∙ limits_from ps None (value_by ps nodes standard.nodes) (value_by ps entries standard.entries) (value_by ps list standard.list) a refl refl refl

pub returns-in_err-nodes : goal.returns-in_err-nodes
returns-in_err-nodes c = λ ps says.
    let a = value_got ps c.args.matches.now says pairs standard.pairs c.value_or.result (Some c.in_ok-pairs.pairs) (c.value_or.ensures ∙ rw c.standard-usual.ensures.standard refl) c.in_ok-pairs.was in
    let b = value_got ps c.args.matches.now says nodes standard.nodes c.value_or-2.result None (c.value_or-2.ensures ∙ rw c.standard-usual.ensures.standard refl) c.in_err-nodes.was in
    c.from_residual-in_err-nodes.ensures ∙ limits_from ps (Some c.in_ok-pairs.pairs) None (value_by ps entries standard.entries) (value_by ps list standard.list) a b refl refl

pub returns-in_err-entries : goal.returns-in_err-entries
returns-in_err-entries c = λ ps says.
    let a = value_got ps c.args.matches.now says pairs standard.pairs c.value_or.result (Some c.in_ok-pairs.pairs) (c.value_or.ensures ∙ rw c.standard-usual.ensures.standard refl) c.in_ok-pairs.was in
    let b = value_got ps c.args.matches.now says nodes standard.nodes c.value_or-2.result (Some c.in_ok-nodes.nodes) (c.value_or-2.ensures ∙ rw c.standard-usual.ensures.standard refl) c.in_ok-nodes.was in
    let d = value_got ps c.args.matches.now says entries standard.entries c.value_or-3.result None (c.value_or-3.ensures ∙ rw c.standard-usual.ensures.standard refl) c.in_err-entries.was in
    c.from_residual-in_err-entries.ensures ∙ limits_from ps (Some c.in_ok-pairs.pairs) (Some c.in_ok-nodes.nodes) None (value_by ps list standard.list) a b d refl

pub returns-in_err-list : goal.returns-in_err-list
returns-in_err-list c = λ ps says.
    let a = value_got ps c.args.matches.now says pairs standard.pairs c.value_or.result (Some c.in_ok-pairs.pairs) (c.value_or.ensures ∙ rw c.standard-usual.ensures.standard refl) c.in_ok-pairs.was in
    let b = value_got ps c.args.matches.now says nodes standard.nodes c.value_or-2.result (Some c.in_ok-nodes.nodes) (c.value_or-2.ensures ∙ rw c.standard-usual.ensures.standard refl) c.in_ok-nodes.was in
    let d = value_got ps c.args.matches.now says entries standard.entries c.value_or-3.result (Some c.in_ok-entries.entries) (c.value_or-3.ensures ∙ rw c.standard-usual.ensures.standard refl) c.in_ok-entries.was in
    let e = value_got ps c.args.matches.now says list standard.list c.value_or-4.result None (c.value_or-4.ensures ∙ rw c.standard-usual.ensures.standard refl) c.in_err-list.was in
    c.from_residual-in_err-list.ensures ∙ limits_from ps (Some c.in_ok-pairs.pairs) (Some c.in_ok-nodes.nodes) (Some c.in_ok-entries.entries) None a b d e

pub returns : goal.returns
returns c = λ ps says.
    let a = value_got ps c.args.matches.now says pairs standard.pairs c.value_or.result (Some c.in_ok-pairs.pairs) (c.value_or.ensures ∙ rw c.standard-usual.ensures.standard refl) c.in_ok-pairs.was in
    let b = value_got ps c.args.matches.now says nodes standard.nodes c.value_or-2.result (Some c.in_ok-nodes.nodes) (c.value_or-2.ensures ∙ rw c.standard-usual.ensures.standard refl) c.in_ok-nodes.was in
    let d = value_got ps c.args.matches.now says entries standard.entries c.value_or-3.result (Some c.in_ok-entries.entries) (c.value_or-3.ensures ∙ rw c.standard-usual.ensures.standard refl) c.in_ok-entries.was in
    let e = value_got ps c.args.matches.now says list standard.list c.value_or-4.result (Some c.in_ok-list.list) (c.value_or-4.ensures ∙ rw c.standard-usual.ensures.standard refl) c.in_ok-list.was in
    rw (c.says.ensures ps plain says refl) (limits_from ps (Some c.in_ok-pairs.pairs) (Some c.in_ok-nodes.nodes) (Some c.in_ok-entries.entries) (Some c.in_ok-list.list) a b d e)
