-- What a datagram carries: one APDU, between the ports of both ends.
use Rattle.std.proofs.Common.{◌≡◌, ℕ, Bool, true, false, List, refl, sym, ap, subst, ◌∙◌}
use Rattle.std.specs.Prelude.{MatchBool}
use Rattle.fw_wrapper.specs.Laws.{OneFrame}
use Rattle.fw_wrapper.specs.Wrapper.{Wraps}
use Rattle.fw_apdu.specs.Request.{NoRequest, RequestContent, SpellsRequest}
use Rattle.fw_apdu.specs.Response.{NoResponse, ResponseContent, SpellsResponse}
use Rattle.fw_client.specs.Ask.{CarriesRequest}
use Rattle.fw_client.specs.Hearing.{CarriesResponse}

-- two ways to end
pub match_of : {P Q : Type 0} (b : Bool) → (b ≡ true → P) → (b ≡ false → Q) → MatchBool b P Q
match_of true first second = first refl
match_of false first second = second refl

module _ (datagram apdu : List ℕ) (source dest : ℕ) (wraps : Wraps datagram source dest apdu) where
  between : source ≡ 1 → dest ≡ 1 → Wraps datagram 1 1 apdu
  between from to = subst (λ (s : ℕ). Wraps datagram s 1 apdu) from (subst (λ (d : ℕ). Wraps datagram source d apdu) to wraps)

  pub carries_request : (invoke : ℕ) (content : RequestContent) → source ≡ 1 → dest ≡ 1 → SpellsRequest apdu invoke content → CarriesRequest datagram invoke content
  carries_request invoke content from to spells = record { apdu = apdu; wraps = between from to; spells = spells }

  pub carries_response : (invoke : ℕ) (content : ResponseContent) → source ≡ 1 → dest ≡ 1 → SpellsResponse apdu invoke content → CarriesResponse datagram invoke content
  carries_response invoke content from to spells = record { apdu = apdu; wraps = between from to; spells = spells }

  pub other_request : OneFrame → ((source ≡ 1) × (dest ≡ 1) → ⊥) → (invoke : ℕ) (content : RequestContent) → CarriesRequest datagram invoke content → ⊥
  other_request frame other invoke content c = (let one = frame datagram apdu c.apdu source dest 1 1 wraps c.wraps in other (one.0, one.1))

  pub other_response : OneFrame → ((source ≡ 1) × (dest ≡ 1) → ⊥) → (invoke : ℕ) (content : ResponseContent) → CarriesResponse datagram invoke content → ⊥
  other_response frame other invoke content c = (let one = frame datagram apdu c.apdu source dest 1 1 wraps c.wraps in other (one.0, one.1))

  pub none_request : OneFrame → NoRequest apdu → (invoke : ℕ) (content : RequestContent) → CarriesRequest datagram invoke content → ⊥
  none_request frame none invoke content c =
      none invoke content (subst (λ (a : List ℕ). SpellsRequest a invoke content) (sym (frame datagram apdu c.apdu source dest 1 1 wraps c.wraps).2) c.spells)

  pub none_response : OneFrame → NoResponse apdu → (invoke : ℕ) (content : ResponseContent) → CarriesResponse datagram invoke content → ⊥
  none_response frame none invoke content c =
      none invoke content (subst (λ (a : List ℕ). SpellsResponse a invoke content) (sym (frame datagram apdu c.apdu source dest 1 1 wraps c.wraps).2) c.spells)
