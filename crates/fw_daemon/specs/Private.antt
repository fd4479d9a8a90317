-- For private clauses alone: what is read in a datagram and in its reply.
use Rattle.std.specs.Prelude.{ℕ, List, Option, Some, None}
use Rattle.fw_apdu.specs.View.{request_content, request_invoke}
use Rattle.fw_apdu.specs.declared.request.Request.{Request}
use Rattle.fw_meter.specs.Handling.{Brings, BringsNothing}
use Rattle.fw_daemon.specs.Events.{CarriesCode}

-- a datagram brings this request, or none
abbrev pub HasRequest : List ℕ → Option Request → Type 0
HasRequest datagram (Some request) = (source : ℕ) × Brings datagram source (request_invoke request) (request_content request)
HasRequest datagram None = BringsNothing datagram

-- a reply carries this code, or none
abbrev pub HasCode : List ℕ → Option ℕ → Type 0
HasCode reply (Some c) = CarriesCode reply c
HasCode reply None = (c : ℕ) → ¬ CarriesCode reply c
