-- What a tick and a datagram make of the rows of a shard, and of a meter.
use Rattle.std.proofs.Common.{◌≡◌, ℕ, List, [], position, slice_set, slice_index_or, Option, Some, unwrap_or, refl, sym, ap, subst, ◌∙◌, inl}
use Rattle.std.proofs.lemmas.List.Quantifiers.{position-Some}
use Rattle.std.proofs.lemmas.Option.{slice_get-get_or}
use Rattle.fw_names.specs.Name.{Campaign, Name}
use Rattle.fw_book.specs.Contents.{Contents, image_in}
use Rattle.fw_head.specs.Row.{Row, RowHears, sends, ticked}
use Rattle.fw_head.specs.Head.{news_of}
use Rattle.fw_head.specs.declared.news.News.{News}
use Rattle.fw_head.specs.declared.news.RowNews.{RowNews}
use Rattle.fw_image.specs.State.{State, Counts}
use Rattle.fw_meter.specs.Handling.{Handles}
use Rattle.fw_world.specs.State.{sent_to}
use Rattle.fw_world.specs.Step.{replies}
use Rattle.fw_world.specs.World.{Datagram}
use Rattle.fw_shared.specs.Acts.{MeterServes, RowGoesOn, RowsHear, RowsTick, is_live_of}

pub goes_on : (meter : ℕ) (old : List Row) (at : ℕ) (row next : Row) → position (is_live_of meter) old ≡ Some at → row ≡ slice_index_or old at row → RowGoesOn meter old row next (slice_set old at next)
goes_on meter old at row next first is = record {
  at = at;
  first = first;
  row_is = slice_get-get_or old at row (position-Some (is_live_of meter) old at row first).0 ∙ ap Some (sym is);
  new_is = refl;
}

pub hears : (d : Datagram) (meter : ℕ) (bytes : List ℕ) → meter ≡ d.meter → bytes ≡ d.bytes
    → (old : List Row) (at : ℕ) (row next : Row) (campaign : Campaign) (heard : RowNews) (told : News)
    → position (is_live_of meter) old ≡ Some at → row ≡ slice_index_or old at row → campaign ≡ row.name.campaign
    → RowHears row bytes heard next → told ≡ news_of campaign meter heard → RowsHear old d told (slice_set old at next)
hears d meter bytes from of old at row next campaign heard told first is in_campaign row_hears told_is = inl (
  row,
  next,
  heard,
  goes_on d.meter old at row next (ap (λ m. position (is_live_of m) old) (sym from) ∙ first) is,
  subst (λ b. RowHears row b heard next) of row_hears,
  told_is ∙ ap (λ c. news_of c meter heard) in_campaign ∙ ap (λ m. news_of row.name.campaign m heard) from,
)

pub meter_serves : (old new : State) (d : Datagram) (bytes : List ℕ) (reply : Option (List ℕ)) (name : Option Name) (sent : List Datagram) → bytes ≡ d.bytes
    → Handles old.honest (Counts old new) old.meter bytes reply name new.meter → sent ≡ replies d reply → MeterServes old d sent new
meter_serves old new d bytes reply name sent of handles is = record {
  reply = reply;
  name = name;
  handles = subst (λ b. Handles old.honest (Counts old new) old.meter b reply name new.meter) of handles;
  sent_is = is;
}

pub ticks : (book : Contents) (width meter : ℕ) (old : List Row) (at : ℕ) (row next : Row) (image : List ℕ) (sent : List Datagram)
    → position (is_live_of meter) old ≡ Some at → row ≡ slice_index_or old at row → image ≡ unwrap_or (image_in book row.name.campaign) []
    → sent ≡ sent_to book.head meter (sends row image width) → next ≡ ticked row image width → RowsTick book width meter old sent (slice_set old at next)
ticks book width meter old at row next image sent first is image_is sent_is next_is = inl (
  row,
  next,
  goes_on meter old at row next first is,
  record { image = image; image_is = image_is; sent_is = sent_is; next_is = next_is },
)
