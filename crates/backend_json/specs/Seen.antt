-- What a JSON value is to those who read messages: its numbers have values, and of a name that stands twice the last member counts.
use Rattle.std.specs.Prelude.{◌&&◌, Bool, true, is_some, Option, Some, None}
use Rattle.json.specs.Json as json
use Rattle.json.specs.Value.{value_view}
use Rattle.json.specs.declared.value.Value.{Value}
use Rattle.serde_json.specs.Data.{Num, Data, null, boolean, number, string, array, object, Items, no_items, item, Members, no_members, put}
use Rattle.serde_json.specs.Read.{number_of}

abbrev pub number_in : Option Num → Data
number_in None = null
number_in (Some n) = number n

abbrev mutual
  pub data_of : json.Json → Data
  data_of json.null = null
  data_of (json.boolean b) = boolean b
  data_of (json.number s) = number_in (number_of s)
  data_of (json.string s) = string s
  data_of (json.array js) = array (items_data js)
  data_of (json.object ms) = object (members_data ms no_members)

  pub items_data : json.Items → Items
  items_data json.no_items = no_items
  items_data (json.item j js) = item (data_of j) (items_data js)

  pub members_data : json.Members → Members → Members
  members_data json.no_members found = found
  members_data (json.member k j ms) found = members_data ms (put k (data_of j) found)

-- every number is in range
abbrev mutual
  pub is_ranged : json.Json → Bool
  is_ranged json.null = true
  is_ranged (json.boolean b) = true
  is_ranged (json.number s) = is_some (number_of s)
  is_ranged (json.string s) = true
  is_ranged (json.array js) = items_ranged js
  is_ranged (json.object ms) = members_ranged ms

  pub items_ranged : json.Items → Bool
  items_ranged json.no_items = true
  items_ranged (json.item j js) = is_ranged j && items_ranged js

  pub members_ranged : json.Members → Bool
  members_ranged json.no_members = true
  members_ranged (json.member k j ms) = is_ranged j && members_ranged ms

abbrev pub seen : {A : Type 0} → Value A → Data
seen v = data_of (value_view v)
