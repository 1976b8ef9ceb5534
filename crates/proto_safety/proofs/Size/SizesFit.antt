-- A message whose parts are sized fits: it has a spelling.
use Rattle.std.proofs.Common.{◌≡◌, ℕ, ◌≤◌, ◌<◌, List, [], ◌∷◌, length, Option, Some, None, arith, refl, true, nat_lt}
use Rattle.std.specs.List.{list_all, All}
use Rattle.std.proofs.lemmas.Bool.{and_from, lt-ltb, le-leb}
use Rattle.std.proofs.lemmas.List.Elements.{All-head, All-tail}
use Rattle.proto_data.specs.declared.message.Msg.{Msg}
use Rattle.proto_data.specs.declared.message.Body.{Body}
use Rattle.proto_data.specs.declared.message.Entry.{Entry}
use Rattle.proto_data.specs.declared.message.Echoed.{Echoed}
use Rattle.proto_data.specs.declared.message.Carried.{Carried}
use Rattle.proto_data.specs.declared.message.Config.{Config}
use Rattle.proto_data.specs.MessageFits.{is_u32, are_u32, key_fits, load_fits, mark_fits, delta_fits, entry_spelled, echoed_fits, config_fits, body_fits, message_fits}
use Rattle.rp_app.specs.Application.{Delta, rising, cells_named}
use Rattle.proto_model.specs.Feeds.{Each}
use Rattle.key_table.specs.Table.{Key}
use Rattle.proto_safety.specs.Books.{Rising}
use Rattle.proto_safety.specs.Sizes.{KeySized, LoadSized, MarkSized, DeltaSized, EntrySized, EchoedSized, ConfigSized, BodySized, MsgSized}

key_is : (key : Key) → KeySized key → key_fits key ≡ true
key_is key h = and_from _ _ (le-leb 1 (length key) h.0) (le-leb (length key) 16 h.1)

all_below : (xs : List ℕ) → All (λ c. c < 256) xs → list_all (λ c. nat_lt c 256) xs ≡ true
all_below [] h = refl
all_below (x ∷ xs) h = and_from _ _ (lt-ltb x 256 (All-head (λ c. c < 256) x xs h)) (all_below xs (All-tail (λ c. c < 256) x xs h))

delta_is : (d : ℕ) (delta : Delta) → DeltaSized d delta → delta_fits delta ≡ true
delta_is d delta h =
    and_from _ _ (le-leb (length delta) 256 h.0.short) (and_from _ _ h.0.rises (all_below (cells_named delta) h.0.within))

each_below : (xs : List ℕ) → Each (λ r. r < 5) xs → list_all (λ n. nat_lt n 5) xs ≡ true
each_below [] h = refl
each_below (x ∷ xs) h = and_from _ _ (lt-ltb x 5 h.0) (each_below xs h.1)

chain_is : (xs : List ℕ) → Rising xs → rising xs ≡ true
chain_is [] h = refl
chain_is (x ∷ []) h = refl
chain_is (x ∷ y ∷ ys) h = and_from _ _ (lt-ltb x y h.0.0) (chain_is (y ∷ ys) h.1)

module _ (n : ℕ) (small : n ≤ 4000000001) where
  one_is : (a : ℕ) → a ≤ n → is_u32 a ≡ true
  one_is a h = lt-ltb a 4294967296 (omega arith)

  three_are : (a b c : ℕ) → a ≤ n → b ≤ n → c ≤ n → are_u32 a b c ≡ true
  three_are a b c h k l = and_from _ _ (one_is a h) (and_from _ _ (one_is b k) (one_is c l))

  two_are : (a b : ℕ) → a ≤ n → b ≤ n → are_u32 a b 0 ≡ true
  two_are a b h k = three_are a b 0 h k (omega arith)

  load_is : (load : Option Carried) → LoadSized n load → load_fits load ≡ true
  load_is None h = refl
  load_is (Some c) h = and_from _ _ (one_is c.mark h.0) (and_from _ _ (lt-ltb c.port 65536 h.1) (le-leb (length c.bytes) 1500 h.2))

  mark_is : (mark : Option ℕ) → MarkSized n mark → mark_fits mark ≡ true
  mark_is None h = refl
  mark_is (Some m) h = one_is m h

  entry_is : (d : ℕ) (e : Entry) → EntrySized n d e → entry_spelled e ≡ true
  entry_is d (Entry.Grant key epoch switch inc nonce) h = and_from _ _ (key_is key h.0) (and_from _ _ (three_are epoch inc nonce h.1 h.3 h.4) (lt-ltb switch 8 h.2))
  entry_is d (Entry.Put key epoch number delta) h = and_from _ _ (key_is key h.0) (and_from _ _ (two_are epoch number h.1 h.2) (delta_is d delta h.3))
  entry_is d (Entry.Snap key epoch round cells) h = and_from _ _ (key_is key h.0) (and_from _ _ (two_are epoch round h.1 h.2) (le-leb (length cells) 256 h.3))

  echoed_is : (of : Echoed) → EchoedSized n of → echoed_fits of ≡ true
  echoed_is (Echoed.Ask switch inc nonce key) h = and_from _ _ (lt-ltb switch 8 h.0) (and_from _ _ (two_are inc nonce h.1 h.2) (key_is key h.3))
  echoed_is (Echoed.Put switch epoch number key) h = and_from _ _ (lt-ltb switch 8 h.0) (and_from _ _ (two_are epoch number h.1 h.2) (key_is key h.3))

  config_is : (c : Config) → ConfigSized n c → config_fits c ≡ true
  config_is c h =
      and_from _ _ (one_is c.number h.number)
      (and_from _ _ (le-leb 1 (length c.chain) h.some)
      (and_from _ _ (le-leb (length c.chain) 5 h.few) (and_from _ _ (chain_is c.chain h.rises) (each_below c.chain h.replicas))))

  body_is : (d : ℕ) (body : Body) → BodySized n d body → body_fits body ≡ true
  body_is d (Body.Ask inc nonce key load) h = and_from _ _ (two_are inc nonce h.0 h.1) (and_from _ _ (key_is key h.2) (load_is load h.3))
  body_is d (Body.Grant inc nonce epoch key cells load) h =
      and_from _ _ (three_are inc nonce epoch h.0 h.1 h.2) (and_from _ _ (key_is key h.3) (and_from _ _ (le-leb (length cells) 256 h.4) (load_is load h.5)))
  body_is d (Body.Busy inc nonce key mark) h = and_from _ _ (two_are inc nonce h.0 h.1) (and_from _ _ (key_is key h.2) (mark_is mark h.3))
  body_is d (Body.Put inc epoch number key delta load) h =
      and_from _ _ (three_are inc epoch number h.0 h.1 h.2) (and_from _ _ (key_is key h.3) (and_from _ _ (delta_is d delta h.4) (load_is load h.5)))
  body_is d (Body.Ack inc epoch upto key load) h = and_from _ _ (three_are inc epoch upto h.0 h.1 h.2) (and_from _ _ (key_is key h.3) (load_is load h.4))
  body_is d (Body.Deny inc epoch key) h = and_from _ _ (two_are inc epoch h.0 h.1) (key_is key h.2)
  body_is d (Body.Forward config index entry load) h = and_from _ _ (two_are config index h.0 h.1) (and_from _ _ (entry_is d entry h.2) (load_is load h.3))
  body_is d (Body.Have index) h = one_is index h
  body_is d (Body.Echo of load) h = and_from _ _ (echoed_is of h.0) (load_is load h.1)
  body_is d (Body.Config config) h = config_is config h
  body_is d (Body.Snap inc epoch round key chunk chunks cells) h =
      and_from _ _ (three_are inc epoch round h.0 h.1 h.2)
      (and_from _ _ (key_is key h.3) (and_from _ _ (lt-ltb chunk chunks h.4) (and_from _ _ (le-leb chunks 8 h.5) (le-leb (length cells) 32 h.6))))

  pub msg_fits : (d : ℕ) (m : Msg) → MsgSized n d m → message_fits m ≡ true
  msg_fits d m h = and_from _ _ h.0 (body_is d m.body h.1)
