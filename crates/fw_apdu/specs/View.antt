-- What the code's requests and responses stand for.
use Rattle.std.specs.Prelude.{ℕ}
use Rattle.std.specs.Option.{option_map}
use Rattle.fw_axdr.specs.View.{value_of}
use Rattle.fw_apdu.specs.Request.{RequestContent, get_request, set_request, action_request}
use Rattle.fw_apdu.specs.Response.{GetResult, value, code, ResponseContent, get_response, set_response, action_response}
use Rattle.fw_apdu.specs.declared.request.Request.{Request}
use Rattle.fw_apdu.specs.declared.request.Request.TheVariants as request
use Rattle.fw_apdu.specs.declared.response.GetDataResult.{GetDataResult}
use Rattle.fw_apdu.specs.declared.response.GetDataResult.TheVariants as result
use Rattle.fw_apdu.specs.declared.response.Response.{Response}
use Rattle.fw_apdu.specs.declared.response.Response.TheVariants as response

abbrev pub request_content : Request → RequestContent
request_content (request.Get invoke class instance attribute) = get_request (record { class = class; instance = instance.0; number = attribute })
request_content (request.Set invoke class instance attribute found) = set_request (record { class = class; instance = instance.0; number = attribute }) (value_of found)
request_content (request.Action invoke class instance method parameter) =
    action_request (record { class = class; instance = instance.0; number = method }) (option_map value_of parameter)

abbrev pub request_invoke : Request → ℕ
request_invoke (request.Get invoke class instance attribute) = invoke.0
request_invoke (request.Set invoke class instance attribute found) = invoke.0
request_invoke (request.Action invoke class instance method parameter) = invoke.0

abbrev pub result_of : GetDataResult → GetResult
result_of (result.Data found) = value (value_of found)
result_of (result.Code c) = code c

abbrev pub response_content : Response → ResponseContent
response_content (response.Get invoke r) = get_response (result_of r)
response_content (response.Set invoke c) = set_response c
response_content (response.Action invoke c returned) = action_response c (option_map result_of returned)

abbrev pub response_invoke : Response → ℕ
response_invoke (response.Get invoke r) = invoke.0
response_invoke (response.Set invoke c) = invoke.0
response_invoke (response.Action invoke c returned) = invoke.0
