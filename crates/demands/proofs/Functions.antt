-- The contracts of the public functions, as the check reads them of the code, are what the theorems are stated of.
use Rattle.demands.specs.Contracts.{Contracts}

pub contracts : Contracts
contracts = record {
  run = record { tells = λ κs a r w h. h; told = λ κs a r w h. h };
  take_out = record { tells = λ κs a r w h. h; told = λ κs a r w h. h };
  tray_run = record { tells = λ κs a r w h. h; told = λ κs a r w h. h };
  slot_out_lem = record { tells = λ κs a r w h. h; told = λ κs a r w h. h };
  write_session = record { tells = λ κs a r w h. h; told = λ κs a r w h. h };
  plain = record { tells = λ κs a r w h. h; told = λ κs a r w h. h };
  quick = record { tells = λ κs a r w h. h; told = λ κs a r w h. h };
  mend = record { tells = λ κs a r w h. h; told = λ κs a r w h. h };
  changes = record { tells = λ κs a r w h. h; told = λ κs a r w h. h };
  export_label_lem = record { tells = λ κs a r w h. h; told = λ κs a r w h. h };
  write_text = record { tells = λ κs a r w h. h; told = λ κs a r w h. h };
  read_text = record { tells = λ κs a r w h. h; told = λ κs a r w h. h };
}
