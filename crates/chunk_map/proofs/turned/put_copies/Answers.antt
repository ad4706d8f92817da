use Rattle.chunk_map.proofs.Meets.{on_ok, one_there, both_there, one_free, both_free, one_source, both_sources}
use Rattle.chunk_map.proofs.turned.put_copies.Goals as goal

pub returns-in-Some-clause-more : goal.returns-in-Some-clause-more
returns-in-Some-clause-more c = λ copy has. c.put_copy-in-Some.ensures.more copy (c.put_copy.ensures.more copy has)

pub returns-in-Some-clause-there : goal.returns-in-Some-clause-there
returns-in-Some-clause-there c =
    on_ok c.put_copy-in-Some.result (λ new now. both_there c.put_copy.new.copies.entries c.put_copy-in-Some.new.copies.entries c.args.chunk.now c.in-Some.second c.copy_at.result c.copy_at-in-Some.result c.copy_at.ensures c.copy_at-in-Some.ensures c.in-Some.is (c.in_ok-put_copy.ensures.there (c.put_copy-in-Some.ensures.stays now)) c.put_copy-in-Some.ensures.more (new now)) c.put_copy-in-Some.ensures.there

pub returns-in-Some-clause-free : goal.returns-in-Some-clause-free
returns-in-Some-clause-free c =
    on_ok c.put_copy-in-Some.result (λ far now. both_free c.args.copies.now.entries c.put_copy.new.copies.entries c.args.chunk.now c.in-Some.second c.copy_at.result c.copy_at-in-Some.result c.copy_at.ensures c.copy_at-in-Some.ensures c.in-Some.is c.put_copy.ensures.more (c.in_ok-put_copy.ensures.there (c.put_copy-in-Some.ensures.stays now)) (c.in_ok-put_copy.ensures.free (c.put_copy-in-Some.ensures.stays now)) (far now)) c.put_copy-in-Some.ensures.free

pub returns-in-None-clause-there : goal.returns-in-None-clause-there
returns-in-None-clause-there c = λ now. one_there c.put_copy.new.copies.entries c.args.chunk.now c.copy_at.result c.copy_at.ensures c.in-None.is (c.in_ok-put_copy.ensures.there now)

pub returns-in-None-clause-free : goal.returns-in-None-clause-free
returns-in-None-clause-free c = λ now. one_free c.args.copies.now.entries c.args.chunk.now c.copy_at.result c.copy_at.ensures c.in-None.is (c.in_ok-put_copy.ensures.free now)

pub returns-in-Some-clause-sources : goal.returns-in-Some-clause-sources
returns-in-Some-clause-sources c =
    on_ok c.put_copy-in-Some.result (λ next. both_sources c.args.copies.now.entries c.put_copy.new.copies.entries c.put_copy-in-Some.new.copies.entries c.args.chunk.now c.in-Some.second c.copy_at.result c.copy_at-in-Some.result c.copy_at.ensures c.copy_at-in-Some.ensures c.in-Some.is c.in_ok-put_copy.ensures.sources next) c.put_copy-in-Some.ensures.sources

pub returns-in-None-clause-sources : goal.returns-in-None-clause-sources
returns-in-None-clause-sources c = one_source c.args.copies.now.entries c.put_copy.new.copies.entries c.args.chunk.now c.copy_at.result c.copy_at.ensures c.in_ok-put_copy.ensures.sources
