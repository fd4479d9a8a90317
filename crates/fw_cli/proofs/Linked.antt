-- Which errors of counters come where keys are given, and over which links a daemon is served.
use Rattle.std.proofs.Common.{◌≡◌, ℕ, List, Option, Some, None, refl, sym, subst}
use Rattle.std.specs.Prelude.{IsTrue, is_some}
use Rattle.std.specs.declared.net.socket_addr.SocketAddr.{SocketAddr}
use Rattle.fw_rollout.specs.declared.link.Listed.{Listed}
use Rattle.fw_sealport.specs.declared.links.Links.{Links}
use Rattle.fw_host.specs.Sealings.{HasHeadLinks, HasMeterLinks}
use Rattle.fw_host.specs.declared.error.CounterFileError.{CounterFileError}
use Rattle.fw_host.specs.declared.error.CounterFileError.TheVariants as old_counter
use Rattle.fw_host.specs.declared.error.NewCounterError.{NewCounterError}
use Rattle.fw_host.specs.declared.error.NewCounterError.TheVariants as new_counter
use Rattle.fw_host.specs.declared.sealing.Sealing.{Sealing}
use Rattle.fw_host.specs.declared.sealing.SealingOptions.{SealingOptions}
use Rattle.fw_cli.specs.Faults.{FindsCounter, MakesCounter}
use Rattle.fw_cli.specs.Sealing.{IsHeadSealing, IsKeyed, IsMeterSealing, links_in, sealing_of_new, sealing_of_old}
use Rattle.fw_cli.specs.declared.error.SealingError.{SealingError}

-- ---- counters

pub some_finds : (s : Option SealingOptions) → FindsCounter s → IsTrue (is_some s)
some_finds None finds = absurd finds
some_finds (Some options) finds = refl

pub some_makes : (s : Option SealingOptions) → MakesCounter s → IsTrue (is_some s)
some_makes None makes = absurd makes
some_makes (Some options) makes = refl

new_is_keyed : (s : Option SealingOptions) (e : NewCounterError) → MakesCounter s → IsKeyed s (sealing_of_new e)
new_is_keyed s new_counter.CounterExists makes = makes
new_is_keyed s new_counter.CounterLocked makes = some_makes s makes
new_is_keyed s new_counter.CounterFault makes = some_makes s makes
new_is_keyed s new_counter.OutOfMemory makes = tt

pub new_keyed : (s : Option SealingOptions) (e : NewCounterError) (told : SealingError) → MakesCounter s → told ≡ sealing_of_new e → IsKeyed s told
new_keyed s e told makes is = subst (λ (x : SealingError). IsKeyed s x) (sym is) (new_is_keyed s e makes)

old_is_keyed : (s : Option SealingOptions) (e : CounterFileError) → FindsCounter s → IsKeyed s (sealing_of_old e)
old_is_keyed s old_counter.NoCounter finds = finds
old_is_keyed s old_counter.CounterLocked finds = some_finds s finds
old_is_keyed s old_counter.CounterFault finds = some_finds s finds
old_is_keyed s old_counter.OutOfMemory finds = tt

pub old_keyed : (s : Option SealingOptions) (e : CounterFileError) (told : SealingError) → FindsCounter s → told ≡ sealing_of_old e → IsKeyed s told
old_keyed s e told finds is = subst (λ (x : SealingError). IsKeyed s x) (sym is) (old_is_keyed s e finds)

-- ---- the links

pub meter_plain : (own : SocketAddr) (s : Option SealingOptions) → s ≡ None → IsMeterSealing own s None
meter_plain own s none = subst (λ (o : Option SealingOptions). IsMeterSealing own o None) (sym none) refl

pub meter_sealed : (own : SocketAddr) (s : Option SealingOptions) (options : SealingOptions) (links : Links) → s ≡ Some options
    → HasMeterLinks own options.order links → IsMeterSealing own s (Some links)
meter_sealed own s options links some has = subst (λ (o : Option SealingOptions). IsMeterSealing own o (Some links)) (sym some) (links, refl, has)

pub meter_served : (own : SocketAddr) (s : Option SealingOptions) (sealing : Option Sealing) (it : Sealing) → sealing ≡ Some it
    → IsMeterSealing own s (links_in sealing) → IsMeterSealing own s (Some it.links)
meter_served own s sealing it some is = subst (λ (o : Option Sealing). IsMeterSealing own s (links_in o)) some is

no_meter_links : (own : SocketAddr) (s : Option SealingOptions) → IsMeterSealing own s None → s ≡ None
no_meter_links own None is = refl
no_meter_links own (Some options) (links, same, has) = absurd cc

pub meter_has_none : (own : SocketAddr) (s : Option SealingOptions) (sealing : Option Sealing) → sealing ≡ None → IsMeterSealing own s (links_in sealing)
    → s ≡ None
meter_has_none own s sealing none is = no_meter_links own s (subst (λ (o : Option Sealing). IsMeterSealing own s (links_in o)) none is)

pub head_plain : (s : Option SealingOptions) (head : ℕ) (list : List Listed) → s ≡ None → IsHeadSealing s head list None
head_plain s head list none = subst (λ (o : Option SealingOptions). IsHeadSealing o head list None) (sym none) refl

pub head_sealed : (s : Option SealingOptions) (options : SealingOptions) (head : ℕ) (list : List Listed) (links : Links) → s ≡ Some options
    → HasHeadLinks options.order head list links → IsHeadSealing s head list (Some links)
head_sealed s options head list links some has =
    subst (λ (o : Option SealingOptions). IsHeadSealing o head list (Some links)) (sym some) (links, refl, has)

pub head_served : (s : Option SealingOptions) (head : ℕ) (list : List Listed) (sealing : Option Sealing) (it : Sealing) → sealing ≡ Some it
    → IsHeadSealing s head list (links_in sealing) → IsHeadSealing s head list (Some it.links)
head_served s head list sealing it some is = subst (λ (o : Option Sealing). IsHeadSealing s head list (links_in o)) some is

no_head_links : (s : Option SealingOptions) (head : ℕ) (list : List Listed) → IsHeadSealing s head list None → s ≡ None
no_head_links None head list is = refl
no_head_links (Some options) head list (links, same, has) = absurd cc

pub head_has_none : (s : Option SealingOptions) (head : ℕ) (list : List Listed) (sealing : Option Sealing) → sealing ≡ None
    → IsHeadSealing s head list (links_in sealing) → s ≡ None
head_has_none s head list sealing none is = no_head_links s head list (subst (λ (o : Option Sealing). IsHeadSealing s head list (links_in o)) none is)
