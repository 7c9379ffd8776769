-- A table of root keys, and what two functions on blocks owe to stand for it.
use Rattle.std.specs.Prelude.{◌≡◌, ℕ, ◌<◌, Bool, if◌then◌else◌, List, [], length, slice_index_or}
use Rattle.aes_cmac.specs.Aes.{IsBlock, encrypted, decrypted}
use Rattle.key_vault.specs.Keys.{js_enc_key}
use Rattle.key_vault.specs.declared.block_fn.RootKind.{RootKind}
use Rattle.key_vault.specs.declared.block_fn.RootKind.TheVariants.{Nwk, App}
use Rattle.wire_ids.specs.declared.keys.RootKeys.{RootKeys}

-- what stands in a place where a table has no row
abbrev pub no_keys : RootKeys
no_keys = record { nwk = []; app = [] }

-- the NwkKey of row i
abbrev pub nwk_at : List RootKeys → ℕ → List ℕ
nwk_at keys i = (slice_index_or keys i no_keys).nwk

-- the AppKey of row i
abbrev pub app_at : List RootKeys → ℕ → List ℕ
app_at keys i = (slice_index_or keys i no_keys).app

-- the root key of this kind of row i
abbrev pub root_key : List RootKeys → RootKind → ℕ → List ℕ
root_key keys Nwk i = nwk_at keys i
root_key keys App i = app_at keys i

-- each call for one of the first count rows may be made
abbrev pub Serves : (ℕ → RootKind → List ℕ → Type 0) → ℕ → Type 0
Serves may count = (i : ℕ) (kind : RootKind) (block : List ℕ) → i < count → IsBlock block → may i kind block

-- and answers what the cipher gives under that row's key
abbrev pub Answers : (List ℕ → List ℕ → List ℕ) → (ℕ → RootKind → List ℕ → List ℕ → Type 0) → List RootKeys → Type 0
Answers cipher gives keys =
    (i : ℕ) (kind : RootKind) (block result : List ℕ) → i < length keys → IsBlock block → gives i kind block result
    → result ≡ cipher (root_key keys kind i) block

-- AES encryption under the table (FIPS 197, 5.1)
abbrev pub Encrypts : (ℕ → RootKind → List ℕ → List ℕ → Type 0) → List RootKeys → Type 0
Encrypts gives keys = Answers encrypted gives keys

-- AES decryption under the table (FIPS 197, 5.3)
abbrev pub Decrypts : (ℕ → RootKind → List ℕ → List ℕ → Type 0) → List RootKeys → Type 0
Decrypts gives keys = Answers decrypted gives keys

-- the key of a join-accept: NwkKey after a join-request, JSEncKey after a rejoin-request (LoRaWAN 1.1, 6.2.3)
unfoldable pub accept_key : List ℕ → ℕ → Bool → List ℕ
accept_key nwk dev_eui rejoin = if rejoin then js_enc_key nwk dev_eui else nwk
