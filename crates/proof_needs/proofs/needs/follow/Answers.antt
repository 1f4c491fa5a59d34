use Rattle.std.proofs.Common.{◌≡◌, option_map, unwrap_or, slice_get, refl, sym, ap, ◌∙◌, subst}
use Rattle.simple_core.specs.declared.rules.Link.{Link}
use Rattle.simple_core.specs.declared.rules.Spawn.{Spawn}
use Rattle.proof_needs.specs.Choices.{from_up, from_down, spawn_needs}
use Rattle.proof_needs.specs.Following.{IsUsed, IsUsedSome, FollowsUp, FollowsDown, Follows, FollowsSome}
use Rattle.proof_needs.specs.Spots.{paths_in}
use Rattle.proof_needs.proofs.TieLemmas.{on_ok, err_then}
use Rattle.proof_needs.specs.declared.needs.Needs.{Needs}
use Rattle.proof_needs.proofs.PremiseLemmas.{premises_of}
use Rattle.proof_needs.proofs.needs.follow.Goals as goal

pub returns-in-Spawn-clause-follows : goal.returns-in-Spawn-clause-follows
returns-in-Spawn-clause-follows c =
    let s = c.args.system.now in
    let spot = c.args.spot in
    let old = c.args.needs.now in
    let new = c.follow_spawn.new.needs in
    let from : c.from_of-in-Spawn.result ≡ from_down s c.in-Spawn.l = c.from_of-in-Spawn.ensures ∙ ap (λ z. unwrap_or (option_map (λ (r : Link). r.from) (slice_get z c.in-Spawn.l)) 0) c.items-in-Spawn.ensures in
    let needs : c.needs_at.result ≡ spawn_needs s c.in-Spawn.c = c.needs_at.ensures ∙ ap (λ z. unwrap_or (option_map (λ (r : Spawn). r.needs) (slice_get z c.in-Spawn.c)) 0) c.items-in-Spawn-2.ensures in
    on_ok c.follow_spawn.result (λ used.
    subst (λ z. Follows (paths_in old.nodes.keys) (paths_in new.nodes.keys) old.ties.items new.ties.items old.wants.keys new.wants.keys s spot z c.args.draft.now.triple) (sym c.in-Spawn.is) (
      λ i. paths_in (c.follow_spawn.ensures.nodes i).keys,
      λ n tie is at.
          subst (λ z. IsUsed n z (spawn_needs s c.in-Spawn.c) spot tie old.ties.items new.ties.items old.wants.keys new.wants.keys) from
          (subst (λ z. IsUsed n c.from_of-in-Spawn.result z spot tie old.ties.items new.ties.items old.wants.keys new.wants.keys) needs (used n tie is at)),
    )) c.follow_spawn.ensures.follows

pub returns-in-Spawn-clause-err : goal.returns-in-Spawn-clause-err
returns-in-Spawn-clause-err c =
    let s = c.args.system.now in
    let spot = c.args.spot in
    let old = c.args.needs.now in
    let new = c.follow_spawn.new.needs in
    let from : c.from_of-in-Spawn.result ≡ from_down s c.in-Spawn.l = c.from_of-in-Spawn.ensures ∙ ap (λ z. unwrap_or (option_map (λ (r : Link). r.from) (slice_get z c.in-Spawn.l)) 0) c.items-in-Spawn.ensures in
    let needs : c.needs_at.result ≡ spawn_needs s c.in-Spawn.c = c.needs_at.ensures ∙ ap (λ z. unwrap_or (option_map (λ (r : Spawn). r.needs) (slice_get z c.in-Spawn.c)) 0) c.items-in-Spawn-2.ensures in
    err_then c.follow_spawn.result (λ used.
    subst (λ z. FollowsSome (paths_in old.nodes.keys) (paths_in new.nodes.keys) old.ties.items new.ties.items old.wants.keys new.wants.keys s spot z c.args.draft.now.triple) (sym c.in-Spawn.is) (
      λ i. paths_in (c.follow_spawn.ensures.nodes i).keys,
      λ n tie is at.
          subst (λ z. IsUsedSome n z (spawn_needs s c.in-Spawn.c) spot tie old.ties.items new.ties.items old.wants.keys new.wants.keys) from
          (subst (λ z. IsUsedSome n c.from_of-in-Spawn.result z spot tie old.ties.items new.ties.items old.wants.keys new.wants.keys) needs (used n tie is at)),
    )) c.follow_spawn.ensures.err

pub returns-in-Start-clause-premises : goal.returns-in-Start-clause-premises
returns-in-Start-clause-premises c = λ placed there.
    let s = c.args.system.now in
    let old = c.args.needs.now in
    let draft = c.args.draft.now in
    let follows = subst (λ z. Follows (paths_in old.nodes.keys) (paths_in old.nodes.keys) old.ties.items old.ties.items old.wants.keys old.wants.keys s c.args.spot z draft.triple) (sym c.in-Start.is) (refl, refl, refl) in
    premises_of s old old c.args.spot draft.choice draft.triple c.requires.ties refl follows placed there

pub returns-in-Local-clause-premises : goal.returns-in-Local-clause-premises
returns-in-Local-clause-premises c = λ placed there.
    let s = c.args.system.now in
    let old = c.args.needs.now in
    let new : Needs = record old { wants = c.want_needs.new.wants } in
    let draft = c.args.draft.now in
    on_ok c.want_needs.result (λ is.
    let follows = subst (λ z. Follows (paths_in old.nodes.keys) (paths_in new.nodes.keys) old.ties.items new.ties.items old.wants.keys new.wants.keys s c.args.spot z draft.triple) (sym c.in-Local.is) (refl, refl, is) in
    premises_of s old new c.args.spot draft.choice draft.triple c.requires.ties refl follows placed there) c.want_needs.ensures.ok

pub returns-in-Up-clause-premises : goal.returns-in-Up-clause-premises
returns-in-Up-clause-premises c = λ placed there.
    let s = c.args.system.now in
    let old = c.args.needs.now in
    let new = c.follow_up.new.needs in
    let draft = c.args.draft.now in
    let from : c.from_of.result ≡ from_up s c.in-Up.l = c.from_of.ensures ∙ ap (λ z. unwrap_or (option_map (λ (r : Link). r.from) (slice_get z c.in-Up.l)) 0) c.items.ensures in
    on_ok c.follow_up.result (λ is.
    let up = subst (FollowsUp (paths_in old.nodes.keys) (paths_in new.nodes.keys) old.ties.items new.ties.items old.wants.keys new.wants.keys c.args.spot) from is in
    let follows = subst (λ z. Follows (paths_in old.nodes.keys) (paths_in new.nodes.keys) old.ties.items new.ties.items old.wants.keys new.wants.keys s c.args.spot z draft.triple) (sym c.in-Up.is) up in
    premises_of s old new c.args.spot draft.choice draft.triple c.requires.ties c.follow_up.ensures.triples follows placed there) c.follow_up.ensures.follows

pub returns-in-Real-clause-premises : goal.returns-in-Real-clause-premises
returns-in-Real-clause-premises c = λ placed there.
    let s = c.args.system.now in
    let old = c.args.needs.now in
    let new = c.follow_down.new.needs in
    let draft = c.args.draft.now in
    let from : c.from_of-in-Real.result ≡ from_down s c.in-Real.l = c.from_of-in-Real.ensures ∙ ap (λ z. unwrap_or (option_map (λ (r : Link). r.from) (slice_get z c.in-Real.l)) 0) c.items-in-Real.ensures in
    on_ok c.follow_down.result (λ is.
    let down = subst (FollowsDown (paths_in old.nodes.keys) (paths_in new.nodes.keys) old.ties.items new.ties.items old.wants.keys new.wants.keys c.args.spot c.in-Real.n) from is in
    let follows = subst (λ z. Follows (paths_in old.nodes.keys) (paths_in new.nodes.keys) old.ties.items new.ties.items old.wants.keys new.wants.keys s c.args.spot z draft.triple) (sym c.in-Real.is) down in
    premises_of s old new c.args.spot draft.choice draft.triple c.requires.ties c.follow_down.ensures.triples follows placed there) c.follow_down.ensures.follows

pub returns-in-Spawn-clause-premises : goal.returns-in-Spawn-clause-premises
returns-in-Spawn-clause-premises c = λ placed there.
    on_ok c.follow_spawn.result (λ follows.
    premises_of c.args.system.now c.args.needs.now c.follow_spawn.new.needs c.args.spot c.args.draft.now.choice c.args.draft.now.triple c.requires.ties c.follow_spawn.ensures.triples follows placed there) (returns-in-Spawn-clause-follows c)
