-- What a stop after some calls of the store leaves.
use Rattle.std.proofs.Common.{◌≡◌, ℕ, List, Option, Some, None, is_some, inl, inr, refl, sym, ap, subst, ◌∙◌, arith}
use Rattle.std.specs.Prelude.{if◌then◌else◌}
use Rattle.std.specs.FinMap.{get}
use Rattle.fw_apdu.specs.Laws as apdu
use Rattle.fw_names.specs.Laws as names
use Rattle.fw_names.specs.Name.{Name}
use Rattle.fw_wrapper.specs.Laws as wrapper
use Rattle.fw_server.specs.Meaning.{Meaning, read, enable, initiate, block, verify, activate, refused as denied, meaning_of}
use Rattle.fw_store.specs.Fuse.{half_torn}
use Rattle.fw_store.specs.StoreLaws.{TornSize}
use Rattle.fw_image.specs.Calls.{left_by_fault}
use Rattle.fw_image.specs.Laws as image
use Rattle.fw_image.specs.Meter.{Meter}
use Rattle.fw_image.specs.Step as operations
use Rattle.fw_image.specs.Step.{Operation, with_cell}
use Rattle.fw_meter.specs.Laws.{Stops, StopAfterIsStop, OneStop}
use Rattle.fw_meter.specs.Stopping.{AsksFor, IsServed}
use Rattle.fw_meter.proofs.Calling.{served_once}
use Rattle.fw_meter.proofs.OneAnswer.{one_answer}
use Rattle.fw_meter.proofs.Stops.{admits_block}

-- only a block's request asks for it
asks_block : (m : Meaning) (i : ℕ) (value : List ℕ) → AsksFor m (operations.block i value) → m ≡ block i value
asks_block (read reading) i value asks = absurd asks
asks_block (denied denial) i value asks = absurd asks
asks_block (enable e) i value asks = absurd cc
asks_block (initiate identifier size) i value (name, spells, asks) = absurd cc
asks_block (block j other) i value asks = cc
asks_block verify i value asks = absurd cc
asks_block activate i value asks = absurd cc

-- a block that was there is torn, and one that wasn't leaves all as it was
block_left : TornSize → (old new : Meter) (datagram : List ℕ) (i : ℕ) (value : List ℕ) (torn : ℕ) (cell : Option (List ℕ)) → get old.cells i ≡ cell → IsServed old datagram (operations.block i value)
    → new ≡ left_by_fault torn old (operations.block i value) → Stops old datagram None new
block_left sized old new datagram i value torn None none served left =
    inl (left ∙ ap (λ (c : Option (List ℕ)). if is_some c then with_cell old i (half_torn value torn) else old) none, refl)
block_left sized old new datagram i value torn (Some there) was served left =
    let admitted = admits_block old old.phase i value served.serves.1 in
    inr (inl (
      record {
        source = served.source;
        invoke = served.invoke;
        content = served.content;
        goal = admitted.0;
        number = i;
        value = value;
        there = there;
        left = half_torn value torn;
        brings = served.brings;
        asks = asks_block (meaning_of served.content) i value served.asks;
        receives = admitted.1;
        is_block = admitted.2;
        was = was;
        size = sized value torn;
        torn = left ∙ ap (λ (c : Option (List ℕ)). if is_some c then with_cell old i (half_torn value torn) else old) was;
      },
      refl,
    ))

cut_left : TornSize → (old new : Meter) (datagram : List ℕ) (torn : ℕ) (operation : Operation) → IsServed old datagram operation → new ≡ left_by_fault torn old operation → Stops old datagram None new
cut_left sized old new datagram torn (operations.enable b) served left = inl (left, refl)
cut_left sized old new datagram torn (operations.initiate name size) served left = inl (left, refl)
cut_left sized old new datagram torn (operations.block i value) served left = block_left sized old new datagram i value torn (get old.cells i) refl served left
cut_left sized old new datagram torn operations.verify served left = inl (left, refl)
cut_left sized old new datagram torn operations.activate served left = inl (left, refl)

pub stop_after_is_stop : TornSize → StopAfterIsStop
stop_after_is_stop sized calls torn old new datagram activated (inl h) =
    subst (λ (a : Option Name). Stops old datagram a new) (sym h.none) (cut_left sized old new datagram torn h.operation h.served h.left)
stop_after_is_stop sized calls torn old new datagram activated (inr h) = inr (inr (h.reply, h.handles))

pub one_stop : names.OneName → wrapper.OneFrame → apdu.OneRequest → image.OneStep → OneStop
one_stop spelled frames requests law calls torn old new other datagram a b (inl h) (inl k) =
    let same = served_once spelled frames requests old datagram h.operation k.operation h.served k.served in
    (h.none ∙ sym k.none, h.left ∙ ap (left_by_fault torn old) same ∙ sym k.left)
one_stop spelled frames requests law calls torn old new other datagram a b (inl h) (inr k) =
    let enough = k.enough h.operation h.served in
    let short = h.short in
    absurd (omega arith)
one_stop spelled frames requests law calls torn old new other datagram a b (inr h) (inl k) =
    let enough = h.enough k.operation k.served in
    let short = k.short in
    absurd (omega arith)
one_stop spelled frames requests law calls torn old new other datagram a b (inr h) (inr k) =
    let both = one_answer spelled frames requests law old new other datagram h.reply k.reply a b h.handles k.handles in
    (both.1, both.2)
