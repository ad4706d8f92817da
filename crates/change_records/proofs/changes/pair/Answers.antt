use Rattle.std.proofs.Common.{◌≡◌, ◌+◌, ◌<◌, length, sym, subst, ap, ◌∙◌, arith}
use Rattle.std.specs.Prelude.{slice_get, None, Some}
use Rattle.std.proofs.lemmas.Option.{slice_get_within, get_or_from_slice_get}
use Rattle.std.proofs.lemmas.Bool.{both_ways}
use Rattle.records.specs.Part.{owned_part}
use Rattle.change_records.specs.Next.{IsNext}
use Rattle.change_records.proofs.Merge.{IsMerged, merged_all, merged_altered, merged_new, merged_old, merged_same}
use Rattle.change_records.proofs.changes.pair.Goals as goal
use Rattle.change_records.proofs.changes.pair.Goals.{then-not-says_the_same+in_ok-push-in-Both, else-not-says_the_same}

pub loop-next-preserved-in-Old : goal.loop-next-preserved-in-Old
loop-next-preserved-in-Old c =
    let next = subst (λ n. IsNext (slice_get c.args.old.now c.loop-next.i) (slice_get c.args.new.now c.loop-next.j) (Some n)) c.in-Old.is c.in-Some.ensures in
    let small : c.loop-next.i < length c.args.old.now = slice_get_within _ _ _ next.1 in
    record {
      in_old = omega (arith, small);
      in_new = c.loop-next.invariant.in_new;
      merged = λ olds news.
          subst (IsMerged c.args.old.now c.args.new.now (c.loop-next.i + 1) c.loop-next.j) (sym c.in_ok-push-in-Old.ensures)
          (merged_old c.args.old.now c.args.new.now c.loop-next.i c.loop-next.j _ next.0 olds news (c.loop-next.invariant.merged olds news) next.1 next.2);
    }

pub loop-next-smaller-in-New : goal.loop-next-smaller-in-New
loop-next-smaller-in-New c =
    let next = subst (λ n. IsNext (slice_get c.args.old.now c.loop-next.i) (slice_get c.args.new.now c.loop-next.j) (Some n)) c.in-New.is c.in-Some.ensures in
    let small' : c.loop-next.j < length c.args.new.now = slice_get_within _ _ _ next.1 in
    omega (arith, small')

pub loop-next-preserved-in-New : goal.loop-next-preserved-in-New
loop-next-preserved-in-New c =
    let next = subst (λ n. IsNext (slice_get c.args.old.now c.loop-next.i) (slice_get c.args.new.now c.loop-next.j) (Some n)) c.in-New.is c.in-Some.ensures in
    let small' : c.loop-next.j < length c.args.new.now = slice_get_within _ _ _ next.1 in
    record {
      in_old = c.loop-next.invariant.in_old;
      in_new = omega (arith, small');
      merged = λ olds news.
          subst (IsMerged c.args.old.now c.args.new.now c.loop-next.i (c.loop-next.j + 1)) (sym c.in_ok-push-in-New.ensures)
          (merged_new c.args.old.now c.args.new.now c.loop-next.i c.loop-next.j _ next.0 olds news (c.loop-next.invariant.merged olds news) next.1 next.2);
    }

pub bounds-old-i : goal.bounds-old-i
bounds-old-i c =
    let next = subst (λ n. IsNext (slice_get c.args.old.now c.loop-next.i) (slice_get c.args.new.now c.loop-next.j) (Some n)) c.in-Both.is c.in-Some.ensures in
    slice_get_within _ _ _ next.2

pub bounds-new-j : goal.bounds-new-j
bounds-new-j c =
    let next = subst (λ n. IsNext (slice_get c.args.old.now c.loop-next.i) (slice_get c.args.new.now c.loop-next.j) (Some n)) c.in-Both.is c.in-Some.ensures in
    slice_get_within _ _ _ next.3

pub loop-next-smaller : goal.loop-next-smaller
loop-next-smaller c =
    let next = subst (λ n. IsNext (slice_get c.args.old.now c.loop-next.i) (slice_get c.args.new.now c.loop-next.j) (Some n)) c.in-Both.is c.in-Some.ensures in
    let small : c.loop-next.i < length c.args.old.now = slice_get_within _ _ _ next.2 in
    let small' : c.loop-next.j < length c.args.new.now = slice_get_within _ _ _ next.3 in
    omega (arith, small, small')

pub loop-next-preserved : goal.loop-next-preserved
loop-next-preserved c =
    let next = subst (λ n. IsNext (slice_get c.args.old.now c.loop-next.i) (slice_get c.args.new.now c.loop-next.j) (Some n)) c.in-Both.is c.in-Some.ensures in
    let one = sym (get_or_from_slice_get c.args.old.now c.loop-next.i next.0 c.index-old-i.result next.2) in
    let other = sym (get_or_from_slice_get c.args.new.now c.loop-next.j next.1 c.index-new-j.result next.3) in
    let small : c.loop-next.i < length c.args.old.now = slice_get_within _ _ _ next.2 in
    let small' : c.loop-next.j < length c.args.new.now = slice_get_within _ _ _ next.3 in
    record {
      in_old = omega (arith, small);
      in_new = omega (arith, small');
      merged = λ olds news. elim c.if-not-says_the_same.branch [
        | then-not-says_the_same+in_ok-push-in-Both w ↦
            subst (IsMerged c.args.old.now c.args.new.now (c.loop-next.i + 1) (c.loop-next.j + 1)) (sym (ap (λ v. v.items) w.changes-is ∙ w.in_ok-push-in-Both.ensures))
            (merged_altered c.args.old.now c.args.new.now c.loop-next.i c.loop-next.j _ next.0 next.1 olds news (c.loop-next.invariant.merged olds news) next.2 next.3 next.4
            (λ e. both_ways c.says_the_same.result w.if-not-says_the_same.true (c.says_the_same.ensures.1 (ap (λ x. owned_part x.part) (sym one) ∙ e ∙ ap (λ x. owned_part x.part) other))))
        | else-not-says_the_same w ↦
            subst (IsMerged c.args.old.now c.args.new.now (c.loop-next.i + 1) (c.loop-next.j + 1)) (sym (ap (λ v. v.items) w.changes-is))
            (merged_same c.args.old.now c.args.new.now c.loop-next.i c.loop-next.j _ next.0 next.1 olds news (c.loop-next.invariant.merged olds news) next.2 next.3 next.4
            (ap (λ x. owned_part x.part) one ∙ c.says_the_same.ensures.0 w.if-not-says_the_same.false ∙ ap (λ x. owned_part x.part) (sym other)))
      ];
    }

pub returns : goal.returns
returns c olds news =
    let ends : (slice_get c.args.old.now c.loop-next.i ≡ None) × (slice_get c.args.new.now c.loop-next.j ≡ None) = c.in_default.ensures in
    merged_all c.args.old.now c.args.new.now c.loop-next.i c.loop-next.j _ (c.loop-next.invariant.merged olds news) ends.0 ends.1
