-- Public vocabulary: a field. The daemons of meters and head ends are processes of their own, which send datagrams to each other, are
-- killed, and start again.
use Rattle.std.specs.Prelude.{◌≡◌, ℕ, Bool, IsTrue, nat_eq, List, [], Option, Some}
use Rattle.std.specs.Option.{option_map, option_and_then}
use Rattle.fw_names.specs.Name.{Campaign}
use Rattle.fw_store.specs.Setup.{IsSetup}
use Rattle.fw_store.specs.declared.version.HeaderVersion.{HeaderVersion}
use Rattle.fw_image.specs.Fresh.{fresh_meter}
use Rattle.fw_image.specs.Meter.{Meter}
use Rattle.fw_book.specs.Changes.{empty_book}
use Rattle.fw_book.specs.Contents.{image_in, state_in}
use Rattle.fw_head.specs.Head.{new_head}
use Rattle.fw_daemon.specs.Daemon.{Daemon}
use Rattle.fw_rollout.specs.Daemon.{new_leader}
use Rattle.fw_rollout.specs.Leading.{Leader}
use Rattle.fw_rollout.specs.declared.ended.Ended.{Ended}
use Rattle.fw_world.specs.State.{is_done}
use Rattle.fw_world.specs.World.{Activation, Datagram, World, put}

pub record Field : Type 0 where
  -- the daemon of each meter, and each head end with its book on a device, under its number
  pub meters : ℕ → Option Daemon
  pub heads : ℕ → Option Leader
  -- all that was ever sent, with the link that it was sent on, in order
  pub sent : List Datagram
  -- all images that meters ever switched to, in order
  pub activations : List Activation
  -- all rows that head ends ever reported as ended, in order
  pub told : List Ended

-- the same, except for one daemon or one head end
abbrev pub with_daemon : Field → ℕ → Daemon → Field
with_daemon f number daemon = record f { meters = put nat_eq f.meters number (Some daemon) }

abbrev pub with_leader : Field → ℕ → Leader → Field
with_leader f number leader = record f { heads = put nat_eq f.heads number (Some leader) }

-- A daemon has this meter. Its store gives what was written, and no call of it fails. If the daemon is killed, moves say what is left.
pub record Has (daemon : Daemon) (meter : Meter) : Type 0 where
  pub meter_is : daemon.state.meter ≡ meter
  pub honest : IsTrue daemon.state.honest
  pub sound : IsTrue daemon.state.sound

-- a field of new meters and of head ends with new books, in which nothing was sent, switched to or reported
pub record IsBeginning (f : Field) : Type 0 where
  pub meters : (number : ℕ) (daemon : Daemon) → f.meters number ≡ Some daemon
      → (version : HeaderVersion) × (block_size capacity : ℕ) × (factory : List ℕ) × IsSetup version block_size capacity factory
      × Has daemon (fresh_meter version block_size capacity factory)
  pub heads : (number : ℕ) (leader : Leader) → f.heads number ≡ Some leader
      → (width : ℕ) × (leader ≡ new_leader leader.meters (new_head number width) (empty_book number))
  pub sent : f.sent ≡ []
  pub activations : f.activations ≡ []
  pub told : f.told ≡ []

-- ---- the world that it is: what the books in memory offer, and the rows that are done in them

abbrev pub offered_by : Option Leader → Campaign → Option (List ℕ)
offered_by found campaign = option_and_then (λ (leader : Leader). image_in leader.head.book campaign) found

abbrev pub done_by : Option Leader → Campaign → ℕ → Bool
done_by found campaign meter = is_done (option_and_then (λ (leader : Leader). state_in leader.head.book campaign meter) found)

abbrev pub world_of : Field → World
world_of f = record {
  offered = λ campaign. offered_by (f.heads campaign.head) campaign;
  sent = f.sent;
  meters = λ number. option_map (λ (daemon : Daemon). daemon.state.meter) (f.meters number);
  activations = f.activations;
  done = λ campaign meter. done_by (f.heads campaign.head) campaign meter;
}

-- whether a row is done in the book that every power cut leaves of its head end
abbrev pub saved_by : Option Leader → Campaign → ℕ → Bool
saved_by found campaign meter = is_done (option_and_then (λ (leader : Leader). state_in leader.synced campaign meter) found)

abbrev pub is_saved : Field → Campaign → ℕ → Bool
is_saved f campaign meter = saved_by (f.heads campaign.head) campaign meter
