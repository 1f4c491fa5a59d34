use Rattle.std.proofs.Common.{◌≡◌, ℕ, List, [], ◌∷◌, ◌++◌, length, refl, ap, ◌∙◌, arith}
use Rattle.proof_core.specs.declared.walks.Level.{Level}
use Rattle.proof_core.specs.declared.walks.Walk.{Walk}
use Rattle.proof_core.specs.Passes.{way_for}
use Rattle.proof_core.proofs.WalkLemmas.{goes_back, walk_ends}
use Rattle.proof_core.proofs.WorkLemmas.{less_back}
use Rattle.proof_core.proofs.walks.Walk.leave.Goals as goal

nil : {X : Type 0} (xs : List X) → length xs ≡ 0 → xs ≡ []
nil [] e = refl
nil (x ∷ xs) e = absurd (omega (arith, e))

pub returns-in_default-clause-end : goal.returns-in_default-clause-end
returns-in_default-clause-end c = λ done same v stands.
    let s = c.args.world.now.system.now in
    let es = c.args.world.now.entries.now in
    let walk : Walk = record c.args.self.now { stack = c.pop.new.self } in
    let gone = rw c.in_default.is at c.pop.ensures.cases in
    walk_ends s es walk done v c.requires.none (nil c.pop.new.self.items (omega (arith, gone.1, c.pop.new.self.ok.0)))

pub returns-clause-on : goal.returns-clause-on
returns-clause-on c = λ done.
    let s = c.args.world.now.system.now in
    let es = c.args.world.now.entries.now in
    let f = c.in-Some.frame in
    let p = c.in_ok-pass.pass in
    let new : Walk = record { at = c.pop-2.new.self; level = record c.replace-inside.new.dest { here = c.push.new.self }; stack = c.pop.new.self } in
    let way = c.in_ok-pass.ensures.way ∙ ap (λ w. w ++ f.child ∷ []) (c.way_from-way.ensures ∙ ap (λ (l : Level). way_for f.from l.here) c.replace-inside.ensures.value) in
    goes_back s es c.args.self.now new f p c.push.new.self done c.requires.none c.in-Some.ensures.items c.pop-2.ensures.rest c.in_ok-pass.ensures.atom c.in_ok-pass.ensures.child way
    (c.in_ok-push.ensures ∙ ap (λ (l : Level). l.here ++ p ∷ []) c.replace-inside.ensures.after) (ap (λ (l : Level). record l { here = c.push.new.self }) c.replace-inside.ensures.after)

pub returns-clause-work : goal.returns-clause-work
returns-clause-work c = λ more.
    let es = c.args.world.now.entries.now in
    let f = c.in-Some.frame in
    let p = c.in_ok-pass.pass in
    let new : Walk = record { at = c.pop-2.new.self; level = record c.replace-inside.new.dest { here = c.push.new.self }; stack = c.pop.new.self } in
    less_back es c.args.self.now new f p c.push.new.self c.in-Some.ensures.items
    (c.in_ok-push.ensures ∙ ap (λ (l : Level). l.here ++ p ∷ []) c.replace-inside.ensures.after) (ap (λ (l : Level). record l { here = c.push.new.self }) c.replace-inside.ensures.after)
