use Rattle.std.proofs.Common.{◌≡◌, [], ◌++◌, rules, take, sym, ap, ◌∙◌, subst, append-nil, drop_of_length-le}
use Rattle.std.specs.Io.KnownBytes.{Appends}
use Rattle.std.proofs.KnownBytes.{Appends-kept, Appends-trans}
use Rattle.fw_host.proofs.Tellings.{moves_front}
use Rattle.fw_host.proofs.lines.write_whole.Goals as goal

pub loop-preserved : goal.loop-preserved
loop-preserved g c =
    let (done, split, appended) = c.loop.invariant in
    let rest = c.loop.rest.now in
    let count = c.in-Some.count in
    (done ++ take count rest, moves_front _ done rest count split, Appends-trans _ _ _ _ _ appended c.in-Some.ensures.written)

pub returns-then-is_empty-clause-front : goal.returns-then-is_empty-clause-front
returns-then-is_empty-clause-front g c =
    let (done, split, appended) = c.loop.invariant in
    (done, c.loop.rest.now, split, Appends-kept _ _ _ _ appended c.flush.ensures.bytes)

pub returns-then-is_empty-clause-whole : goal.returns-then-is_empty-clause-whole
returns-then-is_empty-clause-whole g c = λ _.
    let (done, split, appended) = c.loop.invariant in
    let rest = c.loop.rest.now in
    let empty : rest ≡ [] = drop_of_length-le rest {i = 0} (search rules) in
    subst (Appends _ _) (sym (split ∙ ap (λ l. done ++ l) empty ∙ append-nil done)) (Appends-kept _ _ _ _ appended c.flush.ensures.bytes)

pub returns-in-None-clause-front : goal.returns-in-None-clause-front
returns-in-None-clause-front g c =
    let (done, split, appended) = c.loop.invariant in
    (done, c.loop.rest.now, split, Appends-kept _ _ _ _ appended c.in-None.ensures.written)

pub returns-clause-front : goal.returns-clause-front
returns-clause-front g c =
    let (done, split, appended) = c.loop.invariant in
    (done, c.loop.rest.now, split, appended)
