-- The message of a body.
use Rattle.std.specs.Prelude.{◌≡◌, ◌||◌, ℕ, List, Bool, length, nat_lt, if◌then◌else◌, codes, Option, Some, None, option_and_then, Result, Ok, Err}
use Rattle.std.specs.Str.{is_utf8, bytes_eq}
use Rattle.serde_json.specs.Data.{Data, Members, object}
use Rattle.serde_json.specs.Read.{read}
use Rattle.serde_json.specs.Find.{as_object}
use Rattle.wire_ids.specs.declared.memory.Memory.{Memory as NoMemory}
use Rattle.backend_json.specs.declared.head.Head.{Head}
use Rattle.backend_json.specs.declared.member.Gap.{Gap}
use Rattle.backend_json.specs.declared.member.Gap.TheVariants as gap
use Rattle.backend_json.specs.declared.member.Key.{Key}
use Rattle.backend_json.specs.declared.request.Request.{Request}
use Rattle.backend_json.specs.declared.message.Message.{Message}
use Rattle.backend_json.specs.declared.message.Bad.{Bad}
use Rattle.backend_json.specs.declared.message.Bad.TheVariants.{TooLong, NotJson, Member, Version}
use Rattle.backend_json.specs.Members.{path_of}
use Rattle.backend_json.specs.Requests.{head_in, request_in}

-- the JSON value of a body
abbrev pub json_of : List ℕ → Option Data
json_of body = if is_utf8 body then read body else None

-- the versions that are served
abbrev pub is_served_version : List ℕ → Bool
is_served_version version = bytes_eq version (codes "1.0") || bytes_eq version (codes "1.1")

-- the version is judged once all members are readable
abbrev pub with_request : Head → Result Request Key → Result Message Bad
with_request head (Err key) = Err (Member (path_of key) (Some head))
with_request head (Ok request) = if is_served_version head.protocol_version then Ok (record { head = head; request = request }) else Err (Version head)

unfoldable pub with_head : Head → Data → Result Message Bad
with_head head d = with_request head (request_in head.message_type d)

abbrev pub headed : Data → Result Head Key → Result Message Bad
headed d (Err key) = Err (Member (path_of key) None)
headed d (Ok head) = with_head head d

abbrev pub message_in : Option Members → Result Message Bad
message_in None = Err NotJson
message_in (Some members) = headed (object members) (head_in (object members))

-- the message of a body, or why it has none
unfoldable pub message_of : List ℕ → Result Message Bad
message_of body = if nat_lt 8192 (length body) then Err TooLong else message_in (option_and_then as_object (json_of body))

-- what is said of a gap, unless memory ran out
abbrev pub GivesBad : Result Bad NoMemory → Gap → Option Head → Type 0
GivesBad (Err memory) gap head = Unit {0}
GivesBad (Ok bad) gap.Memory head = ⊥
GivesBad (Ok bad) (gap.Member key) head = bad ≡ Member (path_of key) head
