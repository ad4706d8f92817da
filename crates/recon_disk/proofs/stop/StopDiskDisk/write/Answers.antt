use Rattle.std.proofs.Common.{◌≡◌, false, length, reverse, sym, ap, ◌∙◌, arith, [], ◌∷◌, ◌++◌}
use Rattle.verdict.specs.Image.{range}
use Rattle.std.proofs.lemmas.Grind.{common_steps}
use Rattle.verdict.proofs.Answers.{on_err as if_err}
use Rattle.recon_disk.specs.declared.stop.Record.TheVariants.{Wrote, Missed}
use Rattle.recon_disk.specs.Outside.{IsPartlyWritten}
use Rattle.recon_disk.specs.Memory.{bytes_in}
use Rattle.recon_disk.specs.Stops.{unflushed, with_write}
use Rattle.recon_disk.specs.Stopping.{moments_from, moments_of, is_full}
use Rattle.recon_disk.proofs.Sending.{if_ok}
use Rattle.recon_disk.proofs.Undoing.{partly_both, nothing_changed, moments_wrote, moments_missed, part_range, taken, cut_back, where_room}
use Rattle.recon_disk.proofs.stop.StopDiskDisk.write.Goals as goal

-- what a write records
after_wrote : (c : goal.After-unwrap-2) → moments_from (reverse c.push-2.new.self.items) c.extend_from_slice.new.self.items (bytes_in c.write-answer.new.self)
    ≡ with_write (moments_of c.args.self.now) (unflushed c.args.at c.args.from.now)
after_wrote c =
    let at = c.args.at in
    let from = c.args.from.now in
    let image = bytes_in c.args.self.now.disk in
    let after = bytes_in c.write-answer.new.self in
    let left : IsPartlyWritten image at from after = partly_both c.write-answer.result image at from after c.requires.inside c.write-answer.ensures.written c.write-answer.ensures.partly in
    let stands : at ≡ 65536 → length from ≡ 4096 → range at (length from) after ≡ from =
    λ a b. sym (part_range after c.bytes-2.result.now at (length from) c.bytes-2.ensures) ∙ c.is_missed.ensures.stands c.if-is_missed.false a b in
    let pool : c.extend_from_slice.new.self.items ≡ c.args.self.now.replaced.items ++ range at (length from) image =
    taken c.extend_from_slice.result c.unwrap.result c.extend_from_slice.new.self.items c.args.self.now.replaced.items _ c.unwrap.ensures c.extend_from_slice.ensures.items
    ∙ ap (λ part. c.args.self.now.replaced.items ++ part) (part_range image c.bytes.result.now at (length from) c.bytes.ensures) in
    let records : c.push-2.new.self.items ≡ c.args.self.now.records.items ++ Wrote at (length from) ∷ [] =
    taken c.push-2.result c.unwrap-2.result c.push-2.new.self.items c.args.self.now.records.items (Wrote at (length from) ∷ []) c.unwrap-2.ensures c.push-2.ensures.items in
    ap (λ rs. moments_from (reverse rs) c.extend_from_slice.new.self.items after) records
    ∙ ap (λ p. moments_from (reverse (c.args.self.now.records.items ++ Wrote at (length from) ∷ [])) p after) pool
    ∙ moments_wrote c.args.self.now.records.items c.args.self.now.replaced.items image at from after c.requires.inside left stands

pub returns-clause-moments : goal.returns-clause-moments
returns-clause-moments c = if_ok c.write-answer.result (after_wrote c)

pub returns-clause-perhaps : goal.returns-clause-perhaps
returns-clause-perhaps c =
    let full : is_full c.args.self.now (length c.args.from.now) ≡ false = grind (arith, common_steps) in
    if_err c.write-answer.result (where_room (is_full c.args.self.now (length c.args.from.now)) _ (moments_of c.args.self.now) _ full (after_wrote c))

after_missed : (c : goal.After-unwrap-then-is_missed-2) → moments_from (reverse c.push.new.self.items) c.extend_from_slice-then-is_missed.new.self.items (bytes_in c.write-answer.new.self)
    ≡ with_write (moments_of c.args.self.now) (unflushed c.args.at c.args.from.now)
after_missed c =
    let at = c.args.at in
    let from = c.args.from.now in
    let image = bytes_in c.args.self.now.disk in
    let after = bytes_in c.write-answer.new.self in
    let left : IsPartlyWritten image at from after = partly_both c.write-answer.result image at from after c.requires.inside c.write-answer.ensures.written c.write-answer.ensures.partly in
    let place : (at ≡ 65536) × (length from ≡ 4096) = c.is_missed.ensures.missed c.if-is_missed.true in
    let same : after ≡ image = nothing_changed image at from after c.requires.inside left place.0 place.1
    (λ e. c.is_missed.ensures.other c.if-is_missed.true (part_range after c.bytes-2.result.now at (length from) c.bytes-2.ensures ∙ e)) in
    let first = taken c.extend_from_slice.result c.unwrap.result c.extend_from_slice.new.self.items c.args.self.now.replaced.items _ c.unwrap.ensures c.extend_from_slice.ensures.items in
    let begun : c.len-begun.result ≡ length c.args.self.now.replaced.items = omega arith in
    let cut : c.truncate.new.self.items ≡ c.args.self.now.replaced.items = cut_back c.extend_from_slice.new.self.items c.args.self.now.replaced.items _ c.truncate.new.self.items c.len-begun.result begun first c.truncate.ensures.items in
    let pool : c.extend_from_slice-then-is_missed.new.self.items ≡ c.args.self.now.replaced.items ++ from =
    taken c.extend_from_slice-then-is_missed.result c.unwrap-then-is_missed.result c.extend_from_slice-then-is_missed.new.self.items c.truncate.new.self.items from c.unwrap-then-is_missed.ensures c.extend_from_slice-then-is_missed.ensures.items
    ∙ ap (λ p. p ++ from) cut in
    let records : c.push.new.self.items ≡ c.args.self.now.records.items ++ Missed ∷ [] =
    taken c.push.result c.unwrap-then-is_missed-2.result c.push.new.self.items c.args.self.now.records.items (Missed ∷ []) c.unwrap-then-is_missed-2.ensures c.push.ensures.items in
    ap (λ rs. moments_from (reverse rs) c.extend_from_slice-then-is_missed.new.self.items after) records
    ∙ ap (λ p. moments_from (reverse (c.args.self.now.records.items ++ Missed ∷ [])) p after) pool
    ∙ ap (moments_from (reverse (c.args.self.now.records.items ++ Missed ∷ [])) (c.args.self.now.replaced.items ++ from)) same
    ∙ moments_missed c.args.self.now.records.items c.args.self.now.replaced.items image at from place.0 place.1

pub returns-then-is_missed-clause-moments : goal.returns-then-is_missed-clause-moments
returns-then-is_missed-clause-moments c = if_ok c.write-answer.result (after_missed c)

pub returns-then-is_missed-clause-perhaps : goal.returns-then-is_missed-clause-perhaps
returns-then-is_missed-clause-perhaps c =
    let full : is_full c.args.self.now (length c.args.from.now) ≡ false = grind (arith, common_steps) in
    if_err c.write-answer.result (where_room (is_full c.args.self.now (length c.args.from.now)) _ (moments_of c.args.self.now) _ full (after_missed c))
