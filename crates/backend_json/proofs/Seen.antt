-- What is seen of a JSON value is what serde_json makes of it.
use Rattle.std.proofs.Common.{◌≡◌, ◌&&◌, ℕ, List, [], ◌∷◌, Bool, true, false, true≢false, cond, is_some, bytes_eq, Option, Some, None, option_map, option_and_then, refl, sym, ap, ◌∙◌}
use Rattle.std.proofs.lemmas.Slice.Eq.{bytes_eq-Decides}
use Rattle.json.specs.Json as json
use Rattle.json.specs.Lex.{tokens}
use Rattle.json.specs.Token.{Token}
use Rattle.json.specs.Find as find
use Rattle.serde_json.specs.Data.{Num, Data, number, array, object, Items, item, Members, no_members, put}
use Rattle.serde_json.specs.Find.{get, get_member, as_number, as_str, as_bool}
use Rattle.serde_json.specs.Read.{max_depth, number_of, of_json, of_items, of_members, read}
use Rattle.serde_json.proofs.Views.{get_member-put, get_member-put_other}
use Rattle.backend_json.specs.Seen.{number_in, data_of, items_data, members_data, is_ranged, items_ranged, members_ranged}

abbrev where_true : {A : Type 0} → Bool → A → Option A
where_true b x = cond b (Some x) None

number_read : (o : Option Num) → option_map number o ≡ where_true (is_some o) (number_in o)
number_read None = refl
number_read (Some n) = refl

mapped : {A B : Type 0} → (f : A → B) (b : Bool) (x : A) → option_map f (where_true b x) ≡ where_true b (f x)
mapped f true x = refl
mapped f false x = refl

both_items : (a b : Bool) (d : Data) (ds : Items) → option_and_then (λ (e : Data). option_map (item e) (where_true b ds)) (where_true a d) ≡ where_true (a && b) (item d ds)
both_items false b d ds = refl
both_items true true d ds = refl
both_items true false d ds = refl

both_members : (a b : Bool) (d : Data) (rest : Data → Option Members) (ms : Members) → rest d ≡ where_true b ms → option_and_then rest (where_true a d) ≡ where_true (a && b) ms
both_members false b d rest ms e = refl
both_members true b d rest ms e = e

mutual
  pub read_is : (j : json.Json) → of_json j ≡ where_true (is_ranged j) (data_of j)
  read_is json.null = refl
  read_is (json.boolean b) = refl
  read_is (json.number s) = number_read (number_of s)
  read_is (json.string s) = refl
  read_is (json.array js) = ap (option_map array) (items_are js) ∙ mapped array (items_ranged js) (items_data js)
  read_is (json.object ms) = ap (option_map object) (members_are ms no_members) ∙ mapped object (members_ranged ms) (members_data ms no_members)

  items_are : (js : json.Items) → of_items js ≡ where_true (items_ranged js) (items_data js)
  items_are json.no_items = refl
  items_are (json.item j js) = rw (read_is j, items_are js) (both_items (is_ranged j) (items_ranged js) (data_of j) (items_data js))

  members_are : (ms : json.Members) (found : Members) → of_members ms found ≡ where_true (members_ranged ms) (members_data ms found)
  members_are json.no_members found = refl
  members_are (json.member k j ms) found = ap (option_and_then (λ (d : Data). of_members ms (put k d found))) (read_is j)
      ∙ both_members (is_ranged j) (members_ranged ms) (data_of j) (λ (d : Data). of_members ms (put k d found)) (members_data ms (put k (data_of j) found)) (members_are ms (put k (data_of j) found))

abbrev whole : Option (json.Json × List Token) → Option Data
whole parsed = option_and_then of_json (option_and_then (λ (p : json.Json × List Token). json.if_last p.0 p.1) parsed)

-- a text is read where its value is all of it
pub read_whole : (text : List ℕ) (j : json.Json) → json.value max_depth (tokens text) ≡ Some (j, []) → read text ≡ of_json j
read_whole text j e = ap whole e

pub read_front : (text : List ℕ) (j : json.Json) (t : Token) (ts : List Token) → json.value max_depth (tokens text) ≡ Some (j, t ∷ ts) → read text ≡ None
read_front text j t ts e = ap whole e

-- ---- members

abbrev last_or : Option json.Json → Option Data → Option Data
last_or None before = before
last_or (Some j) before = Some (data_of j)

put_at : (b : Bool) (k l : List ℕ) (j : json.Json) (found : Members) → bytes_eq l k ≡ b → get_member k (put l (data_of j) found) ≡ last_or (cond b (Some j) None) (get_member k found)
put_at true k l j found e = let same : l ≡ k = (bytes_eq-Decides l k).0 e in ap (λ (n : List ℕ). get_member k (put n (data_of j) found)) same ∙ get_member-put k (data_of j) found
put_at false k l j found e = get_member-put_other k l (data_of j) found (λ (same : k ≡ l). absurd (true≢false (sym ((bytes_eq-Decides l k).1 (sym same)) ∙ e)))

later : (last : Option json.Json) (k l : List ℕ) (j : json.Json) (found : Members) → last_or last (get_member k (put l (data_of j) found)) ≡ last_or (find.later_or last (cond (bytes_eq l k) (Some j) None)) (get_member k found)
later (Some i) k l j found = refl
later None k l j found = put_at (bytes_eq l k) k l j found refl

member_is : (k : List ℕ) (ms : json.Members) (found : Members) → get_member k (members_data ms found) ≡ last_or (find.get_member k ms) (get_member k found)
member_is k json.no_members found = refl
member_is k (json.member l j ms) found = member_is k ms (put l (data_of j) found) ∙ later (find.get_member k ms) k l j found

last_or_none : (o : Option json.Json) → last_or o None ≡ option_map data_of o
last_or_none None = refl
last_or_none (Some j) = refl

number_has_none : (k : List ℕ) (o : Option Num) → get k (number_in o) ≡ None
number_has_none k None = refl
number_has_none k (Some n) = refl

-- the last member of a name
pub get_is : (k : List ℕ) (j : json.Json) → get k (data_of j) ≡ option_map data_of (find.get k j)
get_is k json.null = refl
get_is k (json.boolean b) = refl
get_is k (json.number s) = number_has_none k (number_of s)
get_is k (json.string s) = refl
get_is k (json.array js) = refl
get_is k (json.object ms) = member_is k ms no_members ∙ last_or_none (find.get_member k ms)

-- ---- texts, truth and numbers

number_is_no_text : (o : Option Num) → as_str (number_in o) ≡ None
number_is_no_text None = refl
number_is_no_text (Some n) = refl

pub as_str_is : (j : json.Json) → as_str (data_of j) ≡ find.as_str j
as_str_is json.null = refl
as_str_is (json.boolean b) = refl
as_str_is (json.number s) = number_is_no_text (number_of s)
as_str_is (json.string s) = refl
as_str_is (json.array js) = refl
as_str_is (json.object ms) = refl

number_is_no_bool : (o : Option Num) → as_bool (number_in o) ≡ None
number_is_no_bool None = refl
number_is_no_bool (Some n) = refl

pub as_bool_is : (j : json.Json) → as_bool (data_of j) ≡ find.as_bool j
as_bool_is json.null = refl
as_bool_is (json.boolean b) = refl
as_bool_is (json.number s) = number_is_no_bool (number_of s)
as_bool_is (json.string s) = refl
as_bool_is (json.array js) = refl
as_bool_is (json.object ms) = refl

number_back : (o : Option Num) → as_number (number_in o) ≡ o
number_back None = refl
number_back (Some n) = refl

pub as_number_is : (j : json.Json) → as_number (data_of j) ≡ option_and_then number_of (find.as_number j)
as_number_is json.null = refl
as_number_is (json.boolean b) = refl
as_number_is (json.number s) = number_back (number_of s)
as_number_is (json.string s) = refl
as_number_is (json.array js) = refl
as_number_is (json.object ms) = refl
