use Rattle.std.proofs.Common.{◌≡◌, ℕ, ◌<◌, ◌∷◌, [], arith, length, ap, sym, subst}
use Rattle.std.specs.Prelude.{List}
use Rattle.accounts.specs.declared.postings.Posting.{Posting}
use Rattle.accounts.specs.Kinds.{extent_form}
use Rattle.accounts.specs.Lent.{to, use_pair}
use Rattle.extent_tally.specs.declared.class.ExtentClass.{ExtentClass}
use Rattle.extent_tally.specs.Gains.{IsMore, use_postings}
use Rattle.extent_tally.specs.Held.{class_sums, extents_apart}
use Rattle.extent_tally.proofs.Lists.{set_more}
use Rattle.extent_tally.proofs.tally.ExtentTally.show.Goals as goal

pub returns-clause-yes : goal.returns-clause-yes
unfolding extents_apart
returns-clause-yes c = λ is.
    let list = c.args.self.now.list in
    let place = c.place_of-place.result in
    let class = c.index-class.result.now in
    let who = c.in-Some.who in
    let more = c.in-Some-used.more in
    let within : place < length list.items = omega (arith, list.ok.0, c.len.ensures, c.if-place-len.false) in
    let given = use_pair c.args.address c.args.user.now c.args.kind c.args.form in
    let uses : use_postings c.args.address c.args.kind c.args.form who.root who.ino who.origin ≡ given =
    ap (λ x. to x 1 1 ∷ to (extent_form c.args.address c.args.kind c.args.form) 1 1 ∷ []) (sym (c.in-Some.ensures c.args.address)) in
    set_more list.items place more class within given
    (subst (λ (e : ExtentClass). IsMore (class_sums e) (class_sums more) given) c.index-class.ensures
    (subst (λ (ps : List Posting). IsMore (class_sums class) (class_sums more) ps) uses
    (subst (λ (address : ℕ). IsMore (class_sums class) (class_sums more) (use_postings address c.args.kind c.args.form who.root who.ino who.origin)) c.if-class-address.false c.in-Some-used.ensures.sums)))
