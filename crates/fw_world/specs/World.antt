-- Public vocabulary: the world. Head ends offer images to meters over a network that loses, repeats and reorders datagrams. Nothing here
-- says how a head end works: it has no phases, windows or retries.
use Rattle.std.specs.Prelude.{ℕ, Bool, true, nat_eq, ◌&&◌, List, Option, Some, if◌then◌else◌}
use Rattle.fw_names.specs.Name.{Campaign, Name}
use Rattle.fw_image.specs.Meter.{Meter}
use Rattle.fw_world.specs.declared.datagram.Direction.{Direction}

-- a datagram on the link of a head end and a meter, which it went in this direction
pub record Datagram : Type 0 where
  pub head : ℕ
  pub meter : ℕ
  pub direction : Direction
  pub bytes : List ℕ

-- a meter switched to an image: under this name, and with these bytes
pub record Activation : Type 0 where
  pub meter : ℕ
  pub name : Name
  pub bytes : List ℕ

-- the images that campaigns offer, whatever their releases
abbrev pub Offers : Type 0
Offers = Campaign → Option (List ℕ)

pub record World : Type 0 where
  pub offered : Offers
  -- all that was ever sent, in order
  pub sent : List Datagram
  pub meters : ℕ → Option Meter
  -- all images that were ever switched to, in order
  pub activations : List Activation
  -- which meters are done in which campaigns
  pub done : Campaign → ℕ → Bool

-- the same values, except for this one
abbrev pub put : {A B : Type 0} → (A → A → Bool) → (A → B) → A → B → A → B
put same values key value other = if same other key then value else values other

abbrev pub same_campaign : Campaign → Campaign → Bool
same_campaign a b = nat_eq a.head b.head && nat_eq a.serial b.serial

abbrev pub with_offer : World → Campaign → List ℕ → World
with_offer w campaign image = record w { offered = put same_campaign w.offered campaign (Some image) }

abbrev pub with_meter : World → ℕ → Meter → World
with_meter w number meter = record w { meters = put nat_eq w.meters number (Some meter) }

abbrev pub with_done : World → Campaign → ℕ → World
with_done w campaign meter = record w { done = put same_campaign w.done campaign (put nat_eq (w.done campaign) meter true) }
