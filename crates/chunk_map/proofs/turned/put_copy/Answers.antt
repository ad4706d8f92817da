use Rattle.std.proofs.Common.{refl}
use Rattle.chunk_map.proofs.CopyLaws.{insert_here, insert_others, put_turned, put_more, put_old}
use Rattle.chunk_map.proofs.turned.put_copy.Goals as goal

pub returns-clause-there : goal.returns-clause-there
returns-clause-there c =
    let updates = c.in_ok-insert.ensures.updates in
    λ _. insert_here c.insert.new.self.entries c.args.copy.start _ updates.1

pub returns-clause-kept : goal.returns-clause-kept
returns-clause-kept c =
    let updates = c.in_ok-insert.ensures.updates in
    put_turned c.args.copies.now.entries c.insert.new.self.entries c.args.copy c.requires (c.if-not-is_free.ensures.free refl) (c.if-not-is_free.ensures.some refl)
    (insert_here c.insert.new.self.entries c.args.copy.start _ updates.1) (insert_others c.args.copies.now.entries c.insert.new.self.entries c.args.copy.start updates.2)

pub returns-clause-more : goal.returns-clause-more
returns-clause-more c =
    let updates = c.in_ok-insert.ensures.updates in
    put_more c.args.copies.now.entries c.insert.new.self.entries c.args.copy c.requires (c.if-not-is_free.ensures.free refl) (c.if-not-is_free.ensures.some refl)
    (insert_here c.insert.new.self.entries c.args.copy.start _ updates.1) (insert_others c.args.copies.now.entries c.insert.new.self.entries c.args.copy.start updates.2)

pub returns-clause-sources : goal.returns-clause-sources
returns-clause-sources c =
    let updates = c.in_ok-insert.ensures.updates in
    put_old c.args.copies.now.entries c.insert.new.self.entries c.args.copy c.requires (c.if-not-is_free.ensures.free refl) (c.if-not-is_free.ensures.some refl)
    (insert_here c.insert.new.self.entries c.args.copy.start _ updates.1) (insert_others c.args.copies.now.entries c.insert.new.self.entries c.args.copy.start updates.2)
