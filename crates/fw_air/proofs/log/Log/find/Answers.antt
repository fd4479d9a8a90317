use Rattle.std.proofs.Common.{◌≡◌, ◌++◌, List, All, length, ap, subst}
use Rattle.std.proofs.lemmas.List.Elements.{All-append}
use Rattle.fw_world.specs.World.{Datagram}
use Rattle.fw_air.specs.Logs.{Log, IsSent, IsLast}
use Rattle.fw_air.specs.Parts.{parts, datagrams_of}
use Rattle.fw_air.proofs.Searching.{last_of_newer, last_of_older, starts_behind}
use Rattle.fw_air.proofs.log.Log.find.Goals as goal

pub returns-in_err-last_in-in-None : goal.returns-in_err-last_in-in-None
returns-in_err-last_in-in-None c = λ few.
    let older : List Datagram = c.self.inside.sent.items in
    let newer : List Datagram = datagrams_of (parts c.self.inside.newer.chain) in
    let is : older ++ newer ≡ c.args.self.now.sent = ap (λ (l : Log). l.sent) c.self.view_is in
    let P = IsSent c.args.from c.args.to c.args.bytes.now in
    let first = starts_behind older newer c.args.self.now.sent c.self.inside.datagrams is c.self.invariant.datagrams_are few in
    let none = c.in-None.ensures (length older) first in
    rw c.from_residual.ensures (subst (All (λ d. ¬ P d)) is (All-append (λ d. ¬ P d) older newer (rw c.deref.ensures.value at c.in_err-last_in-in-None.ensures.last) none))

pub returns-in-Some : goal.returns-in-Some
returns-in-Some c = λ few.
    let older : List Datagram = c.self.inside.sent.items in
    let newer : List Datagram = datagrams_of (parts c.self.inside.newer.chain) in
    let is : older ++ newer ≡ c.args.self.now.sent = ap (λ (l : Log). l.sent) c.self.view_is in
    let P = IsSent c.args.from c.args.to c.args.bytes.now in
    let first = starts_behind older newer c.args.self.now.sent c.self.inside.datagrams is c.self.invariant.datagrams_are few in
    let there = c.in-Some.ensures (length older) first in
    subst (λ (ds : List Datagram). IsLast ds P c.in-Some.number) is (last_of_newer P older newer c.in-Some.number there.0 there.1)

pub returns-in_ok-last_in-in-None : goal.returns-in_ok-last_in-in-None
returns-in_ok-last_in-in-None c = λ few.
    let older : List Datagram = c.self.inside.sent.items in
    let newer : List Datagram = datagrams_of (parts c.self.inside.newer.chain) in
    let is : older ++ newer ≡ c.args.self.now.sent = ap (λ (l : Log). l.sent) c.self.view_is in
    let P = IsSent c.args.from c.args.to c.args.bytes.now in
    let first = starts_behind older newer c.args.self.now.sent c.self.inside.datagrams is c.self.invariant.datagrams_are few in
    let none = c.in-None.ensures (length older) first in
    let number = c.in_ok-last_in-in-None.field-0 in
    subst (λ (ds : List Datagram). IsLast ds P number) is (last_of_older P older newer number (rw c.deref.ensures.value at c.in_ok-last_in-in-None.ensures.last) none)
