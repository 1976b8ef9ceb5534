-- After every list of events each book has one Grant for each epoch that it has entries of.
use Rattle.std.proofs.Common.{◌≡◌, ℕ, List, [], ◌∷◌, ◌++◌, Option, Some, None, refl, sym, ◌∙◌, subst, inl, inr, slice_get, append_assoc}
use Rattle.proto_data.specs.declared.message.Entry.{Entry}
use Rattle.rp_base.specs.declared.event.Event.{Event}
use Rattle.rp_app.specs.Application.{Application}
use Rattle.key_table.specs.Table.{Key}
use Rattle.proto_model.specs.World.{World, Setup, ReplicaNode, opened}
use Rattle.proto_model.specs.WorldStep.{world_after}
use Rattle.proto_safety.specs.Books.{In, IsGranted, BooksHold, entries_at, book_of, committed_of}
use Rattle.proto_safety.specs.Epochs.{EpochsOf}
use Rattle.proto_safety.specs.Flows.{FitsFrom}
use Rattle.proto_safety.proofs.Store.BookEpochs.{WasGranted, was_granted, one_grant, one_place, fits_parts}
use Rattle.proto_safety.proofs.Store.LastBook.{Found, find_last, last_book, none_book}
use Rattle.proto_safety.proofs.Store.WorldBooks.{books_kept, books_hold}
use Rattle.proto_safety.proofs.Store.WorldFits.{BooksFit, NodeFits, fits_kept, opened_fits}
use Rattle.proto_safety.proofs.Inductions.Induction.{keeps_both, run_kept}
use Rattle.proto_safety.proofs.Basics.Eachs.{each_at}
use Rattle.proto_safety.proofs.Basics.Members.{in_middle}

pub is_granted : (es : List Entry) (key : Key) (epoch : ℕ) → WasGranted key None es epoch → IsGranted es key epoch
is_granted es key epoch (inl g) = record { switch = g.0; inc = g.1.0; nonce = g.1.1.0; there = g.1.1.1 }
is_granted es key epoch (inr f) = let no : None ≡ Some f.0 = f.1.0 in cc

pub fitting_epochs : (n : ℕ) (es : List Entry) → ((key : Key) → FitsFrom n key None es) → EpochsOf es
fitting_epochs n es fits =
    record {
      granted = λ key epoch e front behind is h.
          let whole : es ≡ (front ++ e ∷ []) ++ behind = is ∙ sym (append_assoc front (e ∷ []) behind) in
          let here : FitsFrom n key None (front ++ e ∷ []) = (fits_parts n key None (front ++ e ∷ []) behind (subst (λ l. FitsFrom n key None l) whole (fits key))).0 in
          is_granted (front ++ e ∷ []) key epoch (was_granted n key None (front ++ e ∷ []) e epoch here (in_middle front [] e) h);
      one = λ key epoch s i m t j p front behind other rest a b.
          let there : In es (Entry.Grant key epoch s i m) = subst (λ l. In l (Entry.Grant key epoch s i m)) (sym a) (in_middle front behind (Entry.Grant key epoch s i m)) in
          let here : In es (Entry.Grant key epoch t j p) = subst (λ l. In l (Entry.Grant key epoch t j p)) (sym b) (in_middle other rest (Entry.Grant key epoch t j p)) in
          let o = one_grant n key None es epoch s i m t j p (fits key) there here in
          record {
            switch = o.switch;
            inc = o.inc;
            nonce = o.nonce;
            place = one_place n key None front behind other rest epoch s i m t j p (subst (λ l. FitsFrom n key None l) a (fits key)) (sym a ∙ b);
          };
    }

pub books_fit : (app : Application) (setup : Setup) (es : List Event) → BooksFit app.cell_count (world_after app (opened app.cell_count setup) es)
books_fit app setup es =
    (run_kept app (λ w. BooksHold w × BooksFit app.cell_count w) (keeps_both app BooksHold (BooksFit app.cell_count) (books_kept app) (fits_kept app)) es (opened app.cell_count setup)
    (books_hold app setup [], opened_fits app.cell_count setup)).1

-- the book of a replica, if there is one
pub book_fits : (cells : ℕ) (w : World) (n : ℕ) (key : Key) → BooksFit cells w → FitsFrom cells key None (book_of w.replicas n)
book_fits cells w n key h = node_case (slice_get w.replicas n) refl
  where
    node_case : (o : Option ReplicaNode) → slice_get w.replicas n ≡ o → FitsFrom cells key None (entries_at o)
    node_case None is = tt
    node_case (Some node) is = (each_at (NodeFits cells) w.replicas n node h is).fits key

-- the committed book is a replica's book, or empty
pub committed_fits : (cells : ℕ) (w : World) (key : Key) → BooksFit cells w → FitsFrom cells key None (committed_of w.replicas)
committed_fits cells w key h = found_case (find_last w.replicas)
  where
    found_case : Found w.replicas → FitsFrom cells key None (committed_of w.replicas)
    found_case (inl f) = rw (last_book w.replicas [] f.0 f.1.0 f.1.1) ((each_at (NodeFits cells) w.replicas f.0 f.1.0 h f.1.1.at).fits key)
    found_case (inr none) = rw (none_book w.replicas [] none) tt

pub each_book_has_epochs : (app : Application) (setup : Setup) (es : List Event) (n : ℕ) → EpochsOf (book_of (world_after app (opened app.cell_count setup) es).replicas n)
each_book_has_epochs app setup es n =
    fitting_epochs app.cell_count _ (λ key. book_fits app.cell_count (world_after app (opened app.cell_count setup) es) n key (books_fit app setup es))

pub committed_has_epochs : (app : Application) (setup : Setup) (es : List Event) → EpochsOf (committed_of (world_after app (opened app.cell_count setup) es).replicas)
committed_has_epochs app setup es = fitting_epochs app.cell_count _ (λ key. committed_fits app.cell_count (world_after app (opened app.cell_count setup) es) key (books_fit app setup es))
