use Rattle.std.proofs.Common.{◌≡◌, ◌≤◌, ◌+◌, ◌-◌, [], ◌∷◌, drop, rules, arith, ap, refl, subst, sym, ◌∙◌}
use Rattle.records.specs.Walk.{children_of, walk_in}
use Rattle.block_source.specs.Private.{pointers_from}
use Rattle.tree_laws.specs.KeepingWalk.{skip_in}
use Rattle.verdict.specs.Rules.{no_key}
use Rattle.tree_laws.specs.Ending.{Lasts}
use Rattle.tree_laws.specs.Meeting.{Meets, met_in, with_met}
use Rattle.tree_laws.proofs.Keepings.{skip_steps}
use Rattle.tree_laws.proofs.KeepCounting.{keep_leaf_counted, keep_node_counted}
use Rattle.tree_laws.proofs.EndWalk.{ends_start, ends_step, kept_ends, leaf_ends, leaf_read_ends, left_ends, read_node_ends, whole_ends}
use Rattle.tree_laws.proofs.MetWalk.{leaf_meets, leaf_read, met_all, met_step, node_met, node_read, whole_meets}
use Rattle.tree_laws.proofs.VisitWalk.{looks_all, looks_step, node_looks, one_looks, read_looks}
use Rattle.tree_laws.specs.Visits.{visits_in}
use Rattle.shared_trees.proofs.changed.+walk_keeping.Goals as goal

-- src/changed.rt:61:9
pub returns-then-e-eq0-2-clause-reads : goal.returns-then-e-eq0-2-clause-reads
returns-then-e-eq0-2-clause-reads g t c =
    keep_leaf_counted (g.K.Keeps.keeps c.args.keeps.now) (g.K.Keeps.anew c.args.keeps.now) (g.D.Disk.bytes c.args.disk.now) c.args.source.now (g.D.Disk.reads c.args.disk.now) _ c.args.e.now c.in_ok-block.block g.T.Taker.with _ _
    (sym c.kept.ensures.value ∙ c.in_default.is) (omega arith) c.in_ok-block.ensures.gives c.in_ok-take_own.ensures c.in_ok-block.ensures.reads

-- src/changed.rt:63:5
pub loop-i-init : goal.loop-i-init
unfolding skip_in
loop-i-init g t c = record {
  taken = search (rules, skip_steps);
  counted = record {
    reads = keep_node_counted (g.K.Keeps.keeps c.args.keeps.now) (g.K.Keeps.anew c.args.keeps.now) (g.D.Disk.bytes c.args.disk.now) c.args.source.now (g.D.Disk.reads c.args.disk.now) _ c.args.e.now c.in_ok-block.block g.T.Taker.with _ _
        (sym c.kept.ensures.value ∙ c.in_default.is) c.if-e-eq0-2.false c.in_ok-block.ensures.gives c.in_ok-take_own.ensures c.in_ok-block.ensures.reads;
  };
  same = c.kept.ensures.same;
  same_anew = c.kept.ensures.same_anew;
  met = node_read (g.K.Keeps.keeps c.args.keeps.now) (g.K.Keeps.anew c.args.keeps.now) (g.D.Disk.bytes c.args.disk.now) c.args.source.now.cache.now c.args.source.now.sup.now c.args.source.now.map.now c.args.e.now c.in_ok-block.block
      (g.K.Keeps.met c.args.keeps.now) (g.K.Keeps.met c.kept.new.self) (sym c.kept.ensures.value ∙ c.in_default.is) c.if-e-eq0-2.false c.in_ok-block.ensures.gives c.kept.ensures.same_met;
  same_pairs = c.kept.ensures.same_pairs;
  same_lasts = c.kept.ensures.same_lasts;
  same_loan = c.kept.ensures.same_loan;
  ended = ends_start (g.K.Keeps.keeps c.args.keeps.now) (g.K.Keeps.anew c.args.keeps.now) (g.K.Keeps.lasts c.args.keeps.now) (g.D.Disk.bytes c.args.disk.now) c.args.source.now.cache.now c.args.source.now.sup.now c.args.source.now.map.now c.args.e.now.level (children_of (c.args.e.now.level - 1) c.args.e.now (pointers_from c.in_ok-block.block 0)) (g.K.Keeps.ended c.args.keeps.now) (g.K.Keeps.ended c.kept.new.self) _ c.kept.ensures.same_ended c.none-last-2.ensures;
  looks = read_looks (g.K.Keeps.keeps c.args.keeps.now) (g.K.Keeps.anew c.args.keeps.now) (g.D.Disk.bytes c.args.disk.now) c.args.source.now.cache.now c.args.source.now.sup.now c.args.source.now.map.now c.args.e.now c.in_ok-block.block (g.K.Keeps.looks c.args.keeps.now) (g.K.Keeps.looks c.kept.new.self)
      (sym c.kept.ensures.value ∙ c.in_default.is) c.if-e-eq0-2.false c.in_ok-block.ensures.gives c.kept.ensures.looks;
}

-- src/changed.rt:83:13
pub returns-then-not-is_below-clause-met : goal.returns-then-not-is_below-clause-met
returns-then-not-is_below-clause-met g t c =
    whole_meets (g.K.Keeps.keeps c.args.keeps.now) (g.K.Keeps.anew c.args.keeps.now) (g.D.Disk.bytes c.args.disk.now) c.args.source.now.cache.now c.args.source.now.sup.now c.args.source.now.map.now c.args.e.now c.in-Some.bound
    (g.K.Keeps.met c.args.keeps.now) (g.K.Keeps.met c.kept.new.self) (sym c.kept.ensures.value ∙ c.in-Some.is) (search rules) c.kept.ensures.same_met

pub returns-then-not-is_below-clause-ended : goal.returns-then-not-is_below-clause-ended
returns-then-not-is_below-clause-ended g t c =
    whole_ends (g.K.Keeps.keeps c.args.keeps.now) (g.K.Keeps.anew c.args.keeps.now) (g.K.Keeps.lasts c.args.keeps.now) (g.D.Disk.bytes c.args.disk.now) c.args.source.now.cache.now c.args.source.now.sup.now c.args.source.now.map.now c.args.e.now c.in-Some.bound
    (g.K.Keeps.ended c.args.keeps.now) (g.K.Keeps.ended c.kept.new.self) _ (sym c.kept.ensures.value ∙ c.in-Some.is) (search rules) c.kept.ensures.same_ended c.none.ensures

pub returns-then-not-is_below-clause-looks : goal.returns-then-not-is_below-clause-looks
returns-then-not-is_below-clause-looks g t c =
    one_looks (g.K.Keeps.keeps c.args.keeps.now) (g.K.Keeps.anew c.args.keeps.now) (g.D.Disk.bytes c.args.disk.now) c.args.source.now.cache.now c.args.source.now.sup.now c.args.source.now.map.now c.args.e.now (g.K.Keeps.looks c.args.keeps.now) (g.K.Keeps.looks c.kept.new.self) c.kept.ensures.looks

-- src/changed.rt:87:13
pub returns-then-e-eq0-clause-met : goal.returns-then-e-eq0-clause-met
returns-then-e-eq0-clause-met g t c =
    leaf_meets (g.K.Keeps.keeps c.args.keeps.now) (g.K.Keeps.anew c.args.keeps.now) (g.D.Disk.bytes c.args.disk.now) c.args.source.now.cache.now c.args.source.now.sup.now c.args.source.now.map.now c.args.e.now c.in-Some.bound
    (g.K.Keeps.met c.args.keeps.now) (g.K.Keeps.met c.end_kept.new.keeps) (sym c.kept.ensures.value ∙ c.in-Some.is) (search rules) (omega arith)
    (c.in_ok-last.ensures.same_met ∙ c.last-known.ensures.same_met ∙ c.in_ok-meet.ensures.met ∙ ap (λ m. with_met m (c.args.e.now ∷ [])) c.kept.ensures.same_met)

pub returns-then-e-eq0-clause-ended : goal.returns-then-e-eq0-clause-ended
returns-then-e-eq0-clause-ended g t c =
    leaf_ends (g.K.Keeps.keeps c.args.keeps.now) (g.K.Keeps.anew c.args.keeps.now) (g.K.Keeps.lasts c.args.keeps.now) (g.D.Disk.bytes c.args.disk.now) c.args.source.now.cache.now c.args.source.now.sup.now c.args.source.now.map.now c.args.e.now c.in-Some.bound
    (g.K.Keeps.ended c.args.keeps.now) (g.K.Keeps.ended c.last-known.new.self) (g.K.Keeps.ended c.end_kept.new.keeps) _ _ c.last-known.result (sym c.kept.ensures.value ∙ c.in-Some.is) (search rules) (omega arith)
    (c.last-known.ensures.value ∙ ap (λ (of : Lasts). of c.args.e.now) (c.in_ok-meet.ensures.same_lasts ∙ c.kept.ensures.same_lasts))
    (c.last-known.ensures.same_ended ∙ c.in_ok-meet.ensures.same_ended ∙ c.kept.ensures.same_ended) c.none-last.ensures
    c.in_ok-last.ensures.last c.in_ok-last.ensures.value

pub returns-then-e-eq0-clause-looks : goal.returns-then-e-eq0-clause-looks
returns-then-e-eq0-clause-looks g t c =
    one_looks (g.K.Keeps.keeps c.args.keeps.now) (g.K.Keeps.anew c.args.keeps.now) (g.D.Disk.bytes c.args.disk.now) c.args.source.now.cache.now c.args.source.now.sup.now c.args.source.now.map.now c.args.e.now (g.K.Keeps.looks c.args.keeps.now) (g.K.Keeps.looks c.end_kept.new.keeps)
    (subst (λ n. n ≤ g.K.Keeps.looks c.args.keeps.now + 3) (sym (c.in_ok-last.ensures.looks ∙ (c.last-known.ensures.looks (c.in_ok-meet.ensures.ready c.in-Some.ensures.ready) ∙ c.in_ok-meet.ensures.looks c.in-Some.ensures.ready))) c.kept.ensures.looks)

-- src/changed.rt:89:9
pub loop-place-init : goal.loop-place-init
unfolding skip_in walk_in
loop-place-init g t c = record {
  taken = search (rules, skip_steps);
  counted = search (rules, skip_steps);
  same = c.last-known.ensures.same ∙ c.in_ok-meet.ensures.same ∙ c.kept.ensures.same;
  same_anew = c.last-known.ensures.same_anew ∙ c.in_ok-meet.ensures.same_anew ∙ c.kept.ensures.same_anew;
  met = node_met (g.K.Keeps.keeps c.args.keeps.now) (g.K.Keeps.anew c.args.keeps.now) (g.D.Disk.bytes c.args.disk.now) c.args.source.now.cache.now c.args.source.now.sup.now c.args.source.now.map.now c.args.e.now c.in-Some.bound
      (g.K.Keeps.met c.args.keeps.now) (g.K.Keeps.met c.last-known.new.self) (sym c.kept.ensures.value ∙ c.in-Some.is) (search rules) c.if-e-eq0.false
      (c.last-known.ensures.same_met ∙ c.in_ok-meet.ensures.met ∙ ap (λ m. with_met m (c.args.e.now ∷ [])) c.kept.ensures.same_met);
  same_pairs = c.last-known.ensures.same_pairs ∙ c.in_ok-meet.ensures.same_pairs ∙ c.kept.ensures.same_pairs;
  same_lasts = c.last-known.ensures.same_lasts ∙ c.in_ok-meet.ensures.same_lasts ∙ c.kept.ensures.same_lasts;
  same_loan = c.last-known.ensures.same_loan ∙ c.in_ok-meet.ensures.same_loan ∙ c.kept.ensures.same_loan;
  ended = ends_start (g.K.Keeps.keeps c.args.keeps.now) (g.K.Keeps.anew c.args.keeps.now) (g.K.Keeps.lasts c.args.keeps.now) (g.D.Disk.bytes c.args.disk.now) c.args.source.now.cache.now c.args.source.now.sup.now c.args.source.now.map.now c.args.e.now.level (g.K.Keeps.anew c.args.keeps.now c.args.e.now) (g.K.Keeps.ended c.args.keeps.now) (g.K.Keeps.ended c.last-known.new.self) _
      (c.last-known.ensures.same_ended ∙ c.in_ok-meet.ensures.same_ended ∙ c.kept.ensures.same_ended) c.none-last.ensures;
  looks = node_looks (g.K.Keeps.keeps c.args.keeps.now) (g.K.Keeps.anew c.args.keeps.now) (g.D.Disk.bytes c.args.disk.now) c.args.source.now.cache.now c.args.source.now.sup.now c.args.source.now.map.now c.args.e.now c.in-Some.bound (g.K.Keeps.looks c.args.keeps.now) (g.K.Keeps.looks c.last-known.new.self)
      (sym c.kept.ensures.value ∙ c.in-Some.is) (search rules) c.if-e-eq0.false
      (subst (λ n. n ≤ g.K.Keeps.looks c.args.keeps.now + 3) (sym (c.last-known.ensures.looks (c.in_ok-meet.ensures.ready c.in-Some.ensures.ready) ∙ c.in_ok-meet.ensures.looks c.in-Some.ensures.ready)) c.kept.ensures.looks);
}

-- src/changed.rt:89:9
pub loop-place-preserved : goal.loop-place-preserved
unfolding skip_in walk_in
loop-place-preserved g t c = record {
  taken = search (rules, skip_steps);
  counted = search (rules, skip_steps);
  same = c.in_ok-last-2.ensures.same ∙ c.next-child.ensures.same ∙ c.loop-place.invariant.same;
  same_anew = c.in_ok-last-2.ensures.same_anew ∙ c.next-child.ensures.same_anew ∙ c.loop-place.invariant.same_anew;
  met = met_step (g.K.Keeps.keeps c.args.keeps.now) (g.K.Keeps.anew c.args.keeps.now) (g.D.Disk.bytes c.args.disk.now) c.args.source.now.cache.now c.args.source.now.sup.now c.args.source.now.map.now c.args.e.now.level c.next-child.result
      (drop c.loop-place.place (g.K.Keeps.anew c.args.keeps.now c.args.e.now)) (drop (c.loop-place.place + 1) (g.K.Keeps.anew c.args.keeps.now c.args.e.now))
      (g.K.Keeps.met c.args.keeps.now) (g.K.Keeps.met c.loop-place.keeps) (g.K.Keeps.met c.next-child.new.self) (g.K.Keeps.met c.walk_keeping.new.keeps)
      (met_in (g.K.Keeps.keeps c.args.keeps.now) (g.K.Keeps.anew c.args.keeps.now) c.args.source.now.sup.now c.args.source.now.map.now c.args.e.now)
      (g.D.Disk.bytes c.loop-place.disk) (g.K.Keeps.keeps c.next-child.new.self) (g.K.Keeps.anew c.next-child.new.self)
      (subst (λ of. drop c.loop-place.place (of c.args.e.now) ≡ c.next-child.result ∷ drop (c.loop-place.place + 1) (of c.args.e.now)) c.loop-place.invariant.same_anew c.next-child.ensures.next)
      c.next-child.ensures.level c.loop-place.invariant.taken.kept.bytes
      (c.next-child.ensures.same ∙ c.loop-place.invariant.same) (c.next-child.ensures.same_anew ∙ c.loop-place.invariant.same_anew) c.next-child.ensures.same_met
      c.loop-place.invariant.met c.in_ok-last-2.ensures.met;
  same_pairs = c.in_ok-last-2.ensures.same_pairs ∙ c.next-child.ensures.same_pairs ∙ c.loop-place.invariant.same_pairs;
  same_lasts = c.in_ok-last-2.ensures.same_lasts ∙ c.next-child.ensures.same_lasts ∙ c.loop-place.invariant.same_lasts;
  same_loan = c.in_ok-last-2.ensures.same_loan ∙ c.next-child.ensures.same_loan ∙ c.loop-place.invariant.same_loan;
  ended = ends_step (g.K.Keeps.keeps c.args.keeps.now) (g.K.Keeps.anew c.args.keeps.now) (g.K.Keeps.lasts c.args.keeps.now) (g.D.Disk.bytes c.args.disk.now) c.args.source.now.cache.now c.args.source.now.sup.now c.args.source.now.map.now c.args.e.now.level c.next-child.result
      (drop c.loop-place.place (g.K.Keeps.anew c.args.keeps.now c.args.e.now)) (drop (c.loop-place.place + 1) (g.K.Keeps.anew c.args.keeps.now c.args.e.now))
      (g.K.Keeps.ended c.args.keeps.now) (g.K.Keeps.ended c.loop-place.keeps) (g.K.Keeps.ended c.next-child.new.self) (g.K.Keeps.ended c.walk_keeping.new.keeps) c.loop-place.last _
      (left_ends (g.K.Keeps.keeps c.args.keeps.now) (g.K.Keeps.anew c.args.keeps.now) (g.K.Keeps.lasts c.args.keeps.now) (g.D.Disk.bytes c.args.disk.now) c.args.source.now.cache.now c.args.source.now.sup.now c.args.source.now.map.now c.args.e.now.level (g.K.Keeps.anew c.args.keeps.now c.args.e.now) no_key)
      (g.D.Disk.bytes c.loop-place.disk) (g.K.Keeps.keeps c.next-child.new.self) (g.K.Keeps.anew c.next-child.new.self) (g.K.Keeps.lasts c.next-child.new.self)
      (subst (λ of. drop c.loop-place.place (of c.args.e.now) ≡ c.next-child.result ∷ drop (c.loop-place.place + 1) (of c.args.e.now)) c.loop-place.invariant.same_anew c.next-child.ensures.next)
      c.next-child.ensures.level c.loop-place.invariant.taken.kept.bytes
      (c.next-child.ensures.same ∙ c.loop-place.invariant.same) (c.next-child.ensures.same_anew ∙ c.loop-place.invariant.same_anew)
      (c.next-child.ensures.same_lasts ∙ c.loop-place.invariant.same_lasts) c.next-child.ensures.same_ended
      c.loop-place.invariant.ended c.in_ok-last-2.ensures.ended;
  looks = looks_step (g.K.Keeps.keeps c.args.keeps.now) (g.K.Keeps.anew c.args.keeps.now) (g.D.Disk.bytes c.args.disk.now) c.args.source.now.cache.now c.args.source.now.sup.now c.args.source.now.map.now c.args.e.now.level c.next-child.result
      (drop c.loop-place.place (g.K.Keeps.anew c.args.keeps.now c.args.e.now)) (drop (c.loop-place.place + 1) (g.K.Keeps.anew c.args.keeps.now c.args.e.now))
      (g.K.Keeps.looks c.args.keeps.now) (g.K.Keeps.looks c.loop-place.keeps) (g.K.Keeps.looks c.next-child.new.self) (g.K.Keeps.looks c.walk_keeping.new.keeps)
      (visits_in (g.K.Keeps.keeps c.args.keeps.now) (g.K.Keeps.anew c.args.keeps.now) c.args.source.now.sup.now c.args.source.now.map.now c.args.e.now)
      (g.D.Disk.bytes c.loop-place.disk) (g.K.Keeps.keeps c.next-child.new.self) (g.K.Keeps.anew c.next-child.new.self)
      (subst (λ of. drop c.loop-place.place (of c.args.e.now) ≡ c.next-child.result ∷ drop (c.loop-place.place + 1) (of c.args.e.now)) c.loop-place.invariant.same_anew c.next-child.ensures.next)
      c.next-child.ensures.level c.loop-place.invariant.taken.kept.bytes
      (c.next-child.ensures.same ∙ c.loop-place.invariant.same) (c.next-child.ensures.same_anew ∙ c.loop-place.invariant.same_anew) c.next-child.ensures.looks
      c.loop-place.invariant.looks c.in_ok-last-2.ensures.looks;
}

-- src/changed.rt:93:9
pub returns-in-Some-clause-met : goal.returns-in-Some-clause-met
returns-in-Some-clause-met g t c =
    subst (λ m. Meets (g.D.Disk.bytes c.args.disk.now) c.args.source.now.cache.now (g.K.Keeps.met c.args.keeps.now) m (met_in (g.K.Keeps.keeps c.args.keeps.now) (g.K.Keeps.anew c.args.keeps.now) c.args.source.now.sup.now c.args.source.now.map.now c.args.e.now)) (sym c.in_ok-last-3.ensures.same_met)
    (met_all (g.K.Keeps.keeps c.args.keeps.now) (g.K.Keeps.anew c.args.keeps.now) (g.D.Disk.bytes c.args.disk.now) c.args.source.now.cache.now c.args.source.now.sup.now c.args.source.now.map.now c.args.e.now.level
    (drop c.loop-place.place (g.K.Keeps.anew c.args.keeps.now c.args.e.now)) (g.K.Keeps.met c.args.keeps.now) (g.K.Keeps.met c.loop-place.keeps)
    (met_in (g.K.Keeps.keeps c.args.keeps.now) (g.K.Keeps.anew c.args.keeps.now) c.args.source.now.sup.now c.args.source.now.map.now c.args.e.now)
    (search (rules, skip_steps)) c.loop-place.invariant.met)

pub returns-in-Some-clause-ended : goal.returns-in-Some-clause-ended
returns-in-Some-clause-ended g t c =
    kept_ends (g.K.Keeps.keeps c.args.keeps.now) (g.K.Keeps.anew c.args.keeps.now) (g.K.Keeps.lasts c.args.keeps.now) (g.D.Disk.bytes c.args.disk.now) c.args.source.now.cache.now c.args.source.now.sup.now c.args.source.now.map.now c.args.e.now c.in-Some.bound
    (drop c.loop-place.place (g.K.Keeps.anew c.args.keeps.now c.args.e.now)) (g.K.Keeps.ended c.args.keeps.now) (g.K.Keeps.ended c.loop-place.keeps) (g.K.Keeps.ended c.end_kept-in-Some.new.keeps)
    c.loop-place.last _ c.last-known.result (sym c.kept.ensures.value ∙ c.in-Some.is) (search rules) c.if-e-eq0.false
    (search (rules, skip_steps)) c.loop-place.invariant.ended
    (c.last-known.ensures.value ∙ ap (λ (of : Lasts). of c.args.e.now) (c.in_ok-meet.ensures.same_lasts ∙ c.kept.ensures.same_lasts))
    c.in_ok-last-3.ensures.last c.in_ok-last-3.ensures.value

pub returns-in-Some-clause-looks : goal.returns-in-Some-clause-looks
returns-in-Some-clause-looks g t c =
    looks_all (g.K.Keeps.keeps c.args.keeps.now) (g.K.Keeps.anew c.args.keeps.now) (g.D.Disk.bytes c.args.disk.now) c.args.source.now.cache.now c.args.source.now.sup.now c.args.source.now.map.now c.args.e.now.level
    (drop c.loop-place.place (g.K.Keeps.anew c.args.keeps.now c.args.e.now)) (g.K.Keeps.looks c.args.keeps.now) (g.K.Keeps.looks c.loop-place.keeps) (g.K.Keeps.looks c.end_kept-in-Some.new.keeps)
    (visits_in (g.K.Keeps.keeps c.args.keeps.now) (g.K.Keeps.anew c.args.keeps.now) c.args.source.now.sup.now c.args.source.now.map.now c.args.e.now)
    (search (rules, skip_steps)) c.in_ok-last-3.ensures.looks c.loop-place.invariant.looks

-- src/changed.rt:98:9
pub returns-then-e-eq0-2-clause-met : goal.returns-then-e-eq0-2-clause-met
returns-then-e-eq0-2-clause-met g t c =
    leaf_read (g.K.Keeps.keeps c.args.keeps.now) (g.K.Keeps.anew c.args.keeps.now) (g.D.Disk.bytes c.args.disk.now) c.args.source.now.cache.now c.args.source.now.sup.now c.args.source.now.map.now c.args.e.now c.in_ok-block.block
    (g.K.Keeps.met c.args.keeps.now) (g.K.Keeps.met c.end.new.self) (sym c.kept.ensures.value ∙ c.in_default.is) (omega arith) c.in_ok-block.ensures.gives
    (c.in_ok-end.ensures.same_met ∙ c.kept.ensures.same_met)

pub returns-then-e-eq0-2-clause-ended : goal.returns-then-e-eq0-2-clause-ended
returns-then-e-eq0-2-clause-ended g t c =
    leaf_read_ends (g.K.Keeps.keeps c.args.keeps.now) (g.K.Keeps.anew c.args.keeps.now) (g.K.Keeps.lasts c.args.keeps.now) (g.D.Disk.bytes c.args.disk.now) c.args.source.now.cache.now c.args.source.now.sup.now c.args.source.now.map.now c.args.e.now c.in_ok-block.block
    (g.K.Keeps.ended c.args.keeps.now) (g.K.Keeps.ended c.kept.new.self) (g.K.Keeps.ended c.end.new.self) _ (sym c.kept.ensures.value ∙ c.in_default.is) (omega arith) c.in_ok-block.ensures.gives
    c.kept.ensures.same_ended c.in_ok-end.ensures.ended c.last_item-last.ensures

pub returns-then-e-eq0-2-clause-looks : goal.returns-then-e-eq0-2-clause-looks
returns-then-e-eq0-2-clause-looks g t c =
    one_looks (g.K.Keeps.keeps c.args.keeps.now) (g.K.Keeps.anew c.args.keeps.now) (g.D.Disk.bytes c.args.disk.now) c.args.source.now.cache.now c.args.source.now.sup.now c.args.source.now.map.now c.args.e.now (g.K.Keeps.looks c.args.keeps.now) (g.K.Keeps.looks c.end.new.self)
    (subst (λ n. n ≤ g.K.Keeps.looks c.args.keeps.now + 3) (sym c.in_ok-end.ensures.looks) c.kept.ensures.looks)

-- src/changed.rt:100:5
pub loop-i-preserved : goal.loop-i-preserved
unfolding skip_in walk_in
loop-i-preserved g t c = record {
  taken = search (rules, skip_steps);
  counted = search (rules, skip_steps);
  same = c.in_ok-last-4.ensures.same ∙ c.loop-i.invariant.same;
  same_anew = c.in_ok-last-4.ensures.same_anew ∙ c.loop-i.invariant.same_anew;
  met = met_step (g.K.Keeps.keeps c.args.keeps.now) (g.K.Keeps.anew c.args.keeps.now) (g.D.Disk.bytes c.args.disk.now) c.args.source.now.cache.now c.args.source.now.sup.now c.args.source.now.map.now c.args.e.now.level c.child_at-child.result
      (children_of (c.args.e.now.level - 1) c.args.e.now (pointers_from c.in_ok-block.block c.loop-i.i))
      (children_of (c.args.e.now.level - 1) c.args.e.now (pointers_from c.in_ok-block.block (c.loop-i.i + 1)))
      (g.K.Keeps.met c.args.keeps.now) (g.K.Keeps.met c.loop-i.keeps) (g.K.Keeps.met c.loop-i.keeps) (g.K.Keeps.met c.walk_keeping-in-loop-i.new.keeps)
      (met_in (g.K.Keeps.keeps c.args.keeps.now) (g.K.Keeps.anew c.args.keeps.now) c.args.source.now.sup.now c.args.source.now.map.now c.args.e.now)
      (g.D.Disk.bytes c.loop-i.disk) (g.K.Keeps.keeps c.loop-i.keeps) (g.K.Keeps.anew c.loop-i.keeps)
      c.child_at-child.ensures.next c.child_at-child.ensures.level c.loop-i.invariant.taken.kept.bytes
      c.loop-i.invariant.same c.loop-i.invariant.same_anew refl
      c.loop-i.invariant.met c.in_ok-last-4.ensures.met;
  same_pairs = c.in_ok-last-4.ensures.same_pairs ∙ c.loop-i.invariant.same_pairs;
  same_lasts = c.in_ok-last-4.ensures.same_lasts ∙ c.loop-i.invariant.same_lasts;
  same_loan = c.in_ok-last-4.ensures.same_loan ∙ c.loop-i.invariant.same_loan;
  ended = ends_step (g.K.Keeps.keeps c.args.keeps.now) (g.K.Keeps.anew c.args.keeps.now) (g.K.Keeps.lasts c.args.keeps.now) (g.D.Disk.bytes c.args.disk.now) c.args.source.now.cache.now c.args.source.now.sup.now c.args.source.now.map.now c.args.e.now.level c.child_at-child.result
      (children_of (c.args.e.now.level - 1) c.args.e.now (pointers_from c.in_ok-block.block c.loop-i.i))
      (children_of (c.args.e.now.level - 1) c.args.e.now (pointers_from c.in_ok-block.block (c.loop-i.i + 1)))
      (g.K.Keeps.ended c.args.keeps.now) (g.K.Keeps.ended c.loop-i.keeps) (g.K.Keeps.ended c.loop-i.keeps) (g.K.Keeps.ended c.walk_keeping-in-loop-i.new.keeps) c.loop-i.last _
      (left_ends (g.K.Keeps.keeps c.args.keeps.now) (g.K.Keeps.anew c.args.keeps.now) (g.K.Keeps.lasts c.args.keeps.now) (g.D.Disk.bytes c.args.disk.now) c.args.source.now.cache.now c.args.source.now.sup.now c.args.source.now.map.now c.args.e.now.level (children_of (c.args.e.now.level - 1) c.args.e.now (pointers_from c.in_ok-block.block 0)) no_key)
      (g.D.Disk.bytes c.loop-i.disk) (g.K.Keeps.keeps c.loop-i.keeps) (g.K.Keeps.anew c.loop-i.keeps) (g.K.Keeps.lasts c.loop-i.keeps)
      c.child_at-child.ensures.next c.child_at-child.ensures.level c.loop-i.invariant.taken.kept.bytes
      c.loop-i.invariant.same c.loop-i.invariant.same_anew c.loop-i.invariant.same_lasts refl
      c.loop-i.invariant.ended c.in_ok-last-4.ensures.ended;
  looks = looks_step (g.K.Keeps.keeps c.args.keeps.now) (g.K.Keeps.anew c.args.keeps.now) (g.D.Disk.bytes c.args.disk.now) c.args.source.now.cache.now c.args.source.now.sup.now c.args.source.now.map.now c.args.e.now.level c.child_at-child.result
      (children_of (c.args.e.now.level - 1) c.args.e.now (pointers_from c.in_ok-block.block c.loop-i.i))
      (children_of (c.args.e.now.level - 1) c.args.e.now (pointers_from c.in_ok-block.block (c.loop-i.i + 1)))
      (g.K.Keeps.looks c.args.keeps.now) (g.K.Keeps.looks c.loop-i.keeps) (g.K.Keeps.looks c.loop-i.keeps) (g.K.Keeps.looks c.walk_keeping-in-loop-i.new.keeps)
      (visits_in (g.K.Keeps.keeps c.args.keeps.now) (g.K.Keeps.anew c.args.keeps.now) c.args.source.now.sup.now c.args.source.now.map.now c.args.e.now)
      (g.D.Disk.bytes c.loop-i.disk) (g.K.Keeps.keeps c.loop-i.keeps) (g.K.Keeps.anew c.loop-i.keeps)
      c.child_at-child.ensures.next c.child_at-child.ensures.level c.loop-i.invariant.taken.kept.bytes
      c.loop-i.invariant.same c.loop-i.invariant.same_anew refl
      c.loop-i.invariant.looks c.in_ok-last-4.ensures.looks;
}

-- src/changed.rt:54:1
pub returns-clause-met : goal.returns-clause-met
returns-clause-met g t c =
    subst (λ m. Meets (g.D.Disk.bytes c.args.disk.now) c.args.source.now.cache.now (g.K.Keeps.met c.args.keeps.now) m (met_in (g.K.Keeps.keeps c.args.keeps.now) (g.K.Keeps.anew c.args.keeps.now) c.args.source.now.sup.now c.args.source.now.map.now c.args.e.now)) (sym c.in_ok-end-2.ensures.same_met)
    (met_all (g.K.Keeps.keeps c.args.keeps.now) (g.K.Keeps.anew c.args.keeps.now) (g.D.Disk.bytes c.args.disk.now) c.args.source.now.cache.now c.args.source.now.sup.now c.args.source.now.map.now c.args.e.now.level
    (children_of (c.args.e.now.level - 1) c.args.e.now (pointers_from c.in_ok-block.block c.loop-i.i)) (g.K.Keeps.met c.args.keeps.now) (g.K.Keeps.met c.loop-i.keeps)
    (met_in (g.K.Keeps.keeps c.args.keeps.now) (g.K.Keeps.anew c.args.keeps.now) c.args.source.now.sup.now c.args.source.now.map.now c.args.e.now)
    (search (rules, skip_steps)) c.loop-i.invariant.met)

pub returns-clause-ended : goal.returns-clause-ended
returns-clause-ended g t c =
    read_node_ends (g.K.Keeps.keeps c.args.keeps.now) (g.K.Keeps.anew c.args.keeps.now) (g.K.Keeps.lasts c.args.keeps.now) (g.D.Disk.bytes c.args.disk.now) c.args.source.now.cache.now c.args.source.now.sup.now c.args.source.now.map.now c.args.e.now c.in_ok-block.block
    (children_of (c.args.e.now.level - 1) c.args.e.now (pointers_from c.in_ok-block.block c.loop-i.i)) (g.K.Keeps.ended c.args.keeps.now) (g.K.Keeps.ended c.loop-i.keeps) (g.K.Keeps.ended c.end-2.new.self)
    c.loop-i.last (sym c.kept.ensures.value ∙ c.in_default.is) c.if-e-eq0-2.false c.in_ok-block.ensures.gives
    (search (rules, skip_steps)) c.loop-i.invariant.ended c.in_ok-end-2.ensures.ended

pub returns-clause-looks : goal.returns-clause-looks
returns-clause-looks g t c =
    looks_all (g.K.Keeps.keeps c.args.keeps.now) (g.K.Keeps.anew c.args.keeps.now) (g.D.Disk.bytes c.args.disk.now) c.args.source.now.cache.now c.args.source.now.sup.now c.args.source.now.map.now c.args.e.now.level
    (children_of (c.args.e.now.level - 1) c.args.e.now (pointers_from c.in_ok-block.block c.loop-i.i)) (g.K.Keeps.looks c.args.keeps.now) (g.K.Keeps.looks c.loop-i.keeps) (g.K.Keeps.looks c.end-2.new.self)
    (visits_in (g.K.Keeps.keeps c.args.keeps.now) (g.K.Keeps.anew c.args.keeps.now) c.args.source.now.sup.now c.args.source.now.map.now c.args.e.now)
    (search (rules, skip_steps)) c.in_ok-end-2.ensures.looks c.loop-i.invariant.looks
