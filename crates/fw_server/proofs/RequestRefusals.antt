-- A request alone is refused by four codes.
use Rattle.std.proofs.Common.{ℕ, ℤ, Bool, true, false, List, Option, Some, None, subst}
use Rattle.std.specs.Prelude.{◌==◌, if◌then◌else◌}
use Rattle.std.specs.Ordering.{int_eq}
use Rattle.std.specs.Option.{option_and_then}
use Rattle.fw_axdr.specs.Value.{Value}
use Rattle.fw_apdu.specs.Cosem.{image_transfer_enabled, image_transfer_initiate, image_block_transfer, image_verify, image_activate}
use Rattle.fw_apdu.specs.Request.{RequestContent, get_request, set_request, action_request, request_descriptor}
use Rattle.fw_server.specs.Meaning.{class_of, object_at, attribute_of, Meaning, read, enable, initiate, block, verify, activate, refused, or_refused, boolean_in, octets_in, number_in, integer_in, two_in, initiate_of, block_of, order_of, enable_of, method_of, asked_of, meaning_at}
use Rattle.fw_server.specs.declared.code.ResultCode.{ResultCode}
use Rattle.fw_server.specs.declared.code.ResultCode.TheVariants.{ReadWriteDenied, ObjectClassInconsistent, TypeUnmatched}
use Rattle.fw_server.specs.declared.object.Object.{Object}
use Rattle.fw_server.specs.declared.object.Object.TheVariants.{ImageTransfer, ActiveIdentifier, ActiveSignature}
use Rattle.fw_server.specs.declared.object.Reading.{Reading}
use Rattle.fw_server.specs.Laws.{RefusesRequest, RequestRefusals}

-- refused by one of the four, or not refused
abbrev IsJudged : Meaning → Type 0
IsJudged (refused code) = RefusesRequest code
IsJudged meaning = Unit {0}

abbrev IsJudgedIf : Option Meaning → Type 0
IsJudgedIf None = Unit {0}
IsJudgedIf (Some meaning) = IsJudged meaning

either : (b : Bool) (m n : Meaning) → IsJudged m → IsJudged n → IsJudged (if b then m else n)
either true m n h k = h
either false m n h k = k

or_code : (code : ResultCode) (found : Option Meaning) → RefusesRequest code → IsJudgedIf found → IsJudged (or_refused code found)
or_code code None h k = h
or_code code (Some meaning) h k = k

then_judged : {A : Type 0} (f : A → Option Meaning) (o : Option A) → ((a : A) → IsJudgedIf (f a)) → IsJudgedIf (option_and_then f o)
then_judged f None each = tt
then_judged f (Some a) each = each a

-- ---- parameters

initiate_judged : (v : Value) → IsJudgedIf (initiate_of v)
initiate_judged v =
    then_judged (λ (x : Value × Value). option_and_then (λ identifier. option_and_then (λ size. Some (initiate identifier size)) (number_in x.1)) (octets_in x.0)) (two_in v)
    (λ x. then_judged (λ (identifier : List ℕ). option_and_then (λ size. Some (initiate identifier size)) (number_in x.1)) (octets_in x.0)
    (λ identifier. then_judged (λ (size : ℕ). Some (initiate identifier size)) (number_in x.1) (λ size. tt)))

block_judged : (v : Value) → IsJudgedIf (block_of v)
block_judged v =
    then_judged (λ (x : Value × Value). option_and_then (λ number. option_and_then (λ bytes. Some (block number bytes)) (octets_in x.1)) (number_in x.0)) (two_in v)
    (λ x. then_judged (λ (number : ℕ). option_and_then (λ bytes. Some (block number bytes)) (octets_in x.1)) (number_in x.0)
    (λ number. then_judged (λ (bytes : List ℕ). Some (block number bytes)) (octets_in x.1) (λ bytes. tt)))

order_judged : (meaning : Meaning) → IsJudged meaning → (v : Value) → IsJudgedIf (order_of meaning v)
order_judged meaning h v = then_judged (λ (n : ℤ). Some meaning) (integer_in v) (λ n. h)

enable_judged : (v : Value) → IsJudgedIf (enable_of v)
enable_judged v = then_judged (λ (b : Bool). Some (enable b)) (boolean_in v) (λ b. tt)

-- ---- what is asked

method_rows : (a b c d : Bool) (i j k l : Option Meaning) → IsJudgedIf i → IsJudgedIf j → IsJudgedIf k → IsJudgedIf l
    → IsJudged (if a then or_refused TypeUnmatched i else (if b then or_refused TypeUnmatched j else (if c then or_refused TypeUnmatched k else (if d then or_refused TypeUnmatched l else refused ReadWriteDenied))))
method_rows true b c d i j k l hi hj hk hl = or_code TypeUnmatched i tt hi
method_rows false true c d i j k l hi hj hk hl = or_code TypeUnmatched j tt hj
method_rows false false true d i j k l hi hj hk hl = or_code TypeUnmatched k tt hk
method_rows false false false true i j k l hi hj hk hl = or_code TypeUnmatched l tt hl
method_rows false false false false i j k l hi hj hk hl = tt

method_judged : (n : ℤ) (parameter : Option Value) → IsJudged (method_of n parameter)
method_judged n parameter =
    method_rows (int_eq n image_transfer_initiate) (int_eq n image_block_transfer) (int_eq n image_verify) (int_eq n image_activate)
    (option_and_then initiate_of parameter) (option_and_then block_of parameter) (option_and_then (order_of verify) parameter) (option_and_then (order_of activate) parameter)
    (then_judged initiate_of parameter initiate_judged) (then_judged block_of parameter block_judged)
    (then_judged (order_of verify) parameter (order_judged verify tt)) (then_judged (order_of activate) parameter (order_judged activate tt))

asked_judged : (object : Object) (content : RequestContent) → IsJudged (asked_of object content)
asked_judged object (get_request d) =
    or_code ReadWriteDenied (option_and_then (λ (reading : Reading). Some (read reading)) (attribute_of object d.number)) tt
    (then_judged (λ (reading : Reading). Some (read reading)) (attribute_of object d.number) (λ reading. tt))
asked_judged ImageTransfer (set_request d v) =
    either (int_eq d.number image_transfer_enabled) (or_refused TypeUnmatched (enable_of v)) (refused ReadWriteDenied) (or_code TypeUnmatched (enable_of v) tt (enable_judged v)) tt
asked_judged ActiveIdentifier (set_request d v) = tt
asked_judged ActiveSignature (set_request d v) = tt
asked_judged ImageTransfer (action_request d parameter) = method_judged d.number parameter
asked_judged ActiveIdentifier (action_request d parameter) = tt
asked_judged ActiveSignature (action_request d parameter) = tt

at_judged : (found : Option Object) (content : RequestContent) → IsJudged (meaning_at found content)
at_judged None content = tt
at_judged (Some object) content =
    either ((request_descriptor content).class == class_of object) (asked_of object content) (refused ObjectClassInconsistent) (asked_judged object content) tt

pub request_refusals : RequestRefusals
request_refusals content code is = subst (λ (m : Meaning). IsJudged m) is (at_judged (object_at (request_descriptor content).instance) content)
