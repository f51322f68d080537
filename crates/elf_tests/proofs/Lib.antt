pub mod WritableLaws
