-- A step of the loop that asks for blocks one after another.
use Rattle.std.proofs.Common.{◌≡◌, ℕ, ◌+◌, ◌-◌, ◌<◌, ◌≤◌, List, [], ◌∷◌, ◌++◌, length, map, refl, sym, ap, subst, ◌∙◌, arith, append_assoc}
use Rattle.std.proofs.lemmas.List.{map-append}
use Rattle.std.proofs.lemmas.Grind.{common_steps}
use Rattle.std.specs.Global.{Vec}
use Rattle.fw_blocks.specs.Width.{max_width}
use Rattle.fw_apdu.specs.Request.{invoke_ids, request_bytes}
use Rattle.fw_wrapper.specs.Wrapper.{wrapped, wport}
use Rattle.fw_client.specs.Ask.{Ask, request_of, kind_of, CarriesRequest}
use Rattle.fw_client.specs.State.{State, asking, invoke_byte}
use Rattle.fw_head.specs.Row.{bytes_of, datagrams, asking_all}
use Rattle.fw_head.specs.Private.{AskedLately, Carry}
use Rattle.fw_head.proofs.FreeIds.{one_later}

-- what was sent grows by the datagram of the next ask
sent_next : (f : ℕ → Ask) (before : List (Vec ℕ)) (d : Vec ℕ) (c : State) (number : ℕ) (others : List ℕ) → d.items ≡ wrapped wport wport (request_bytes (invoke_byte c.next) (request_of (f number))) → bytes_of (before ++ d ∷ []) ++ datagrams (asking c (kind_of (f number))) (map f others) ≡ bytes_of before ++ datagrams c (map f (number ∷ others))
sent_next f before d c number others h =
    ap (λ (l : List (List ℕ)). l ++ datagrams (asking c (kind_of (f number))) (map f others)) (map-append (λ (datagram : Vec ℕ). datagram.items) before (d ∷ []))
    ∙ append_assoc (bytes_of before) (d.items ∷ []) (datagrams (asking c (kind_of (f number))) (map f others))
    ∙ ap (λ (x : List ℕ). bytes_of before ++ (x ∷ datagrams (asking c (kind_of (f number))) (map f others))) h

pub sent_more : (f : ℕ → Ask) (before after : List (Vec ℕ)) (d : Vec ℕ) (c new : State) (rest : List ℕ) (number : ℕ) (others : List ℕ) (whole : List (List ℕ)) → bytes_of before ++ datagrams c (map f rest) ≡ whole → rest ≡ number ∷ others → d.items ≡ wrapped wport wport (request_bytes (invoke_byte c.next) (request_of (f number))) → after ≡ before ++ d ∷ [] → new ≡ asking c (kind_of (f number)) → bytes_of after ++ datagrams new (map f others) ≡ whole
sent_more f before after d c new rest number others whole so_far next written pushed asked =
    ap (λ (l : List (Vec ℕ)). bytes_of l ++ datagrams new (map f others)) pushed
    ∙ ap (λ (s : State). bytes_of (before ++ d ∷ []) ++ datagrams s (map f others)) asked
    ∙ sent_next f before d c number others written
    ∙ ap (λ (l : List ℕ). bytes_of before ++ datagrams c (map f l)) (sym next)
    ∙ so_far

pub asked_more : (f : ℕ → Ask) (c new whole : State) (rest : List ℕ) (number : ℕ) (others : List ℕ) → asking_all c (map f rest) ≡ whole → rest ≡ number ∷ others → new ≡ asking c (kind_of (f number)) → asking_all new (map f others) ≡ whole
asked_more f c new whole rest number others so_far next asked =
    ap (λ (s : State). asking_all s (map f others)) asked
    ∙ ap (λ (l : List ℕ). asking_all c (map f l)) (sym next)
    ∙ so_far

shorter : (rest others : List ℕ) (number : ℕ) → rest ≡ number ∷ others → length rest ≡ 1 + length others
shorter rest others number next = grind (arith, common_steps)

pub lately_more : (f : ℕ → Ask) (c new : State) (rest : List ℕ) (number : ℕ) (others : List ℕ) → AskedLately c (max_width - length rest) → length rest ≤ max_width → rest ≡ number ∷ others → new ≡ asking c (kind_of (f number)) → AskedLately new (max_width - length others)
lately_more f c new rest number others lately few next asked =
    let one : length rest ≡ 1 + length others = shorter rest others number next in
    let same : (max_width - length rest) + 1 ≡ max_width - length others = omega (arith, one, few) in
    let P : ℕ → Type 0 = λ n. AskedLately new n in
    let Q : State → Type 0 = λ s. AskedLately s ((max_width - length rest) + 1) in
    subst P same (subst Q (sym asked) (one_later c (kind_of (f number)) (max_width - length rest) lately))

pub fewer : (rest others : List ℕ) (number : ℕ) → length rest ≤ max_width → rest ≡ number ∷ others → length others ≤ max_width
fewer rest others number few next =
    let one : length rest ≡ 1 + length others = shorter rest others number next in
    omega (arith, one, few)

pub no_more : (before after : List (Vec ℕ)) (d : Vec ℕ) (rest others : List ℕ) (number : ℕ) → length before + length rest ≤ max_width → rest ≡ number ∷ others → after ≡ before ++ d ∷ [] → length after + length others ≤ max_width
no_more before after d rest others number few next pushed =
    let one : length rest ≡ 1 + length others = shorter rest others number next in
    let more : length after ≡ length before + 1 = grind (arith, common_steps, pushed) in
    omega (arith, one, more, few)

-- and so does what carries the asks
pub carry_more : (f : ℕ → Ask) (before after : List (Vec ℕ)) (d : Vec ℕ) (c new whole : State) (numbers rest : List ℕ) (number : ℕ) (others : List ℕ)
    → ((later : List (List ℕ)) → Carry c (map f rest) later → Carry whole (map f numbers) (bytes_of before ++ later))
    → rest ≡ number ∷ others → c.next < invoke_ids → CarriesRequest d.items (invoke_byte c.next) (request_of (f number)) → after ≡ before ++ d ∷ [] → new ≡ asking c (kind_of (f number))
    → (later : List (List ℕ)) → Carry new (map f others) later → Carry whole (map f numbers) (bytes_of after ++ later)
carry_more f before after d c new whole numbers rest number others so_far next fits carries pushed asked later carry =
    let S : State → Type 0 = λ s. Carry s (map f others) later in
    let L : List ℕ → Type 0 = λ l. Carry c (map f l) (d.items ∷ later) in
    let W : List (List ℕ) → Type 0 = λ ds. Carry whole (map f numbers) ds in
    let there = so_far (d.items ∷ later) (subst L (sym next) (fits, carries, subst S asked carry)) in
    let joined : bytes_of after ++ later ≡ bytes_of before ++ d.items ∷ later =
    ap (λ (l : List (Vec ℕ)). bytes_of l ++ later) pushed
    ∙ ap (λ (l : List (List ℕ)). l ++ later) (map-append (λ (datagram : Vec ℕ). datagram.items) before (d ∷ []))
    ∙ append_assoc (bytes_of before) (d.items ∷ []) later in
    subst W (sym joined) there

-- asking leaves the meter that is asked
pub same_meter : (c : State) (asks : List Ask) → (asking_all c asks).meter ≡ c.meter
same_meter c [] = refl
same_meter c (ask ∷ asks) = same_meter (asking c (kind_of ask)) asks
