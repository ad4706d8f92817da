use Rattle.std.proofs.Common.{◌≡◌, ap, arith, length, subst, sym, ◌∙◌}
use Rattle.std.specs.List.{IsDistinct}
use Rattle.std.specs.Map.{keys_of}
use Rattle.ledger_maps.specs.Entries.{by_key}
use Rattle.ledger_index.specs.Judged.{IsLeastBut}
use Rattle.ledger_index.specs.Ledger.{sums_of}
use Rattle.ledger_index.specs.Looks.{counted_times}
use Rattle.ledger_keys.specs.Seat.{is_same_page}
use Rattle.ledger_keys.specs.SeatLaws.{page_equiv}
use Rattle.ledger_index.specs.Seated.{left_pages}
use Rattle.ledger_index.proofs.JudgedLaws.{Found, found_all}
use Rattle.ledger_index.proofs.LooksLaws.{look_end, look_one}
use Rattle.ledger_index.proofs.SeatedLaws.{least_end, least_start}
use Rattle.ledger_index.proofs.ledger.LedgerIndex.least_seated.Goals as goal

pub loop-key-init : goal.loop-key-init
loop-key-init g c =
    let self = c.args.self.now in
    let e : c.into_iter-key-iterator.result ≡ self.pages.map.entries = c.into_iter-key-iterator.ensures.into_iter_gives.0 ∙ ap (λ m. m.entries) c.map-key-items.ensures in
    let distinct : IsDistinct is_same_page (keys_of self.pages.map.entries) =
    subst (λ m. IsDistinct is_same_page (keys_of m.entries)) c.map-key-items.ensures c.into_iter-key-iterator.ensures.into_iter_gives.4 in record {
      least = λ is. subst (λ es. IsLeastBut (sums_of self) (left_pages es) c.args.first) (sym e) (least_start self c.args.first is);
      found = subst (Found (by_key is_same_page self.pages.map)) (sym e) (found_all is_same_page page_equiv self.pages.map.entries distinct);
      counts = ap (λ es. counted_times (length es) c.args.steps.now) e;
    }

-- a page is judged
pub loop-key-preserved : goal.loop-key-preserved
loop-key-preserved g c =
    let self = c.args.self.now in
    let e = c.in-Some.ensures.steps in
    record {
      least = λ is. c.least_of_page-least.ensures c.next.new.self
          (subst (λ es. IsLeastBut (sums_of self) (left_pages es) c.loop-key.least) e (c.loop-key.invariant.least is));
      found = (subst (Found (by_key is_same_page self.pages.map)) e c.loop-key.invariant.found).1;
      counts = look_one (length c.next.new.self) (length c.loop-key.key-iterator) c.loop-key.steps c.look.new.self
          (let more = ap length e in omega (arith, more)) c.look.ensures ∙ c.loop-key.invariant.counts;
    }

pub returns-clause-least : goal.returns-clause-least
returns-clause-least g c = λ is.
    least_end c.args.self.now c.loop-key.least
    (subst (λ es. IsLeastBut (sums_of c.args.self.now) (left_pages es) c.loop-key.least) c.in-None.ensures.steps.0 (c.loop-key.invariant.least is))

pub returns-clause-counts : goal.returns-clause-counts
returns-clause-counts g c = look_end _ c.loop-key.steps _ (ap length c.in-None.ensures.steps.0) c.loop-key.invariant.counts
